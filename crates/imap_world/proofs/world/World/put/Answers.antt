use Rattle.std.proofs.Common.{◌≡◌, ◌<◌, true, false, refl, sym, ap, subst, ◌∙◌, arith}
use Rattle.std.specs.FinMap as map
use Rattle.imap_batch.specs.Held.{IsKept}
use Rattle.imap_batch.proofs.Keeping.{kept_new}
use Rattle.imap_world.specs.Indexed.{IsIndexIn, lists_of}
use Rattle.imap_world.specs.Kept.{AreKept, superior_is_there}
use Rattle.imap_world.specs.declared.mailbox_entry.MailboxEntry.{MailboxEntry}
use Rattle.imap_world.specs.Mailbox.{plain, plain_all}
use Rattle.imap_world.specs.NewMailbox.{NewMailbox, mailbox_in}
use Rattle.imap_world.specs.Ready.{Leaves}
use Rattle.imap_world.specs.Stored.{Stored, world_of}
use Rattle.imap_world.specs.Tree.{with_row}
use Rattle.imap_world.proofs.Contents.{plain_put}
use Rattle.imap_world.proofs.ListsChanged.{alike, lists_put, no_list}
use Rattle.imap_world.proofs.KeptMessages.{kept_put}
use Rattle.imap_world.proofs.Room.{mailboxes_leave}
use Rattle.imap_world.proofs.Sound.{put_is_sound}
use Rattle.imap_world.proofs.world.World.put.Goals as goal

pub invariant_of-self : goal.invariant_of-self
invariant_of-self c =
    let old : Stored = record { mailboxes = c.self.inside.mailboxes; epochs = c.self.inside.epochs; subscriptions = c.self.inside.subscriptions } in
    let new : Stored = record { mailboxes = c.insert_reserved.new.self; epochs = c.insert_reserved-2.new.self; subscriptions = c.self.inside.subscriptions } in
    let above : superior_is_there (plain_all old.mailboxes.map) c.row.inside.name ≡ true =
    ap (λ (s : Stored). superior_is_there (plain_all s.mailboxes.map) c.row.inside.name) c.self.view_is ∙ ap (λ r. superior_is_there (plain_all c.args.self.now.mailboxes.map) r.name) c.row.view_is ∙ c.requires.may.superior in
    let some : 0 < c.row.inside.mailbox.validity = omega (arith, ap (λ r. r.validity) c.row.view_is, c.requires.may.next) in
    let entry : MailboxEntry = record c.row.inside.mailbox { number = c.add.result } in
    let mailboxes : plain_all new.mailboxes.map ≡ map.insert (plain_all old.mailboxes.map) c.row.inside.name (plain c.row.inside.mailbox) =
    ap plain_all c.insert_reserved.ensures.map ∙ plain_put old.mailboxes.map c.row.inside.name entry in
    let free : map.contains_key (plain_all old.mailboxes.map) c.row.inside.name ≡ false =
    ap (λ (s : Stored). map.contains_key (plain_all s.mailboxes.map) c.row.inside.name) c.self.view_is ∙ ap (λ r. map.contains_key (plain_all c.args.self.now.mailboxes.map) r.name) c.row.view_is ∙ c.requires.may.free in (
      put_is_sound (world_of old) (world_of new) c.row.inside.name (plain c.row.inside.mailbox) mailboxes
          (c.insert_reserved-2.ensures.map ∙ ap (λ k. map.insert old.epochs.map k c.row.inside.mailbox.validity) c.row.invariant.0) above some c.self.invariant.0,
      subst AreKept (sym mailboxes) (kept_put (plain_all old.mailboxes.map) c.self.invariant.1 c.row.inside.name (plain c.row.inside.mailbox) (subst IsKept (sym c.row.invariant.1) kept_new)),
      subst (IsIndexIn c.add.new.self) (sym mailboxes)
          (alike c.add.new.self _ _ (lists_put (plain_all old.mailboxes.map) c.row.inside.name (plain c.row.inside.mailbox))
          (c.add.ensures (lists_of (plain_all old.mailboxes.map)) (no_list (plain_all old.mailboxes.map) c.row.inside.name free) c.self.invariant.2)),
    )

pub returns-clause-room : goal.returns-clause-room
returns-clause-room c =
    let old : Stored = record { mailboxes = c.self.inside.mailboxes; epochs = c.self.inside.epochs; subscriptions = c.self.inside.subscriptions } in
    let new : Stored = record { mailboxes = c.insert_reserved.new.self; epochs = c.insert_reserved-2.new.self; subscriptions = c.self.inside.subscriptions } in
    subst (λ s. Leaves 1 s new) c.self.view_is (mailboxes_leave 1 old new refl c.insert_reserved.ensures.spare c.insert_reserved-2.ensures.spare)

pub returns-clause-world : goal.returns-clause-world
returns-clause-world c =
    let old : Stored = record { mailboxes = c.self.inside.mailboxes; epochs = c.self.inside.epochs; subscriptions = c.self.inside.subscriptions } in
    let row : NewMailbox = record { name = c.row.inside.name; validity = c.row.inside.mailbox.validity; acl = c.row.inside.mailbox.acl } in
    let new_one : plain c.row.inside.mailbox ≡ mailbox_in row = λ i. record { validity = row.validity; acl = row.acl; messages = c.row.invariant.1 i } in
    let mailboxes : plain_all c.insert_reserved.new.self.map ≡ map.insert (plain_all old.mailboxes.map) row.name (mailbox_in row) =
    ap plain_all c.insert_reserved.ensures.map ∙ plain_put old.mailboxes.map row.name (record c.row.inside.mailbox { number = c.add.result }) ∙ ap (map.insert (plain_all old.mailboxes.map) row.name) new_one in
    let epochs : c.insert_reserved-2.new.self.map ≡ map.insert old.epochs.map row.name row.validity =
    c.insert_reserved-2.ensures.map ∙ ap (λ k. map.insert old.epochs.map k row.validity) c.row.invariant.0 in
    (λ i. record { mailboxes = mailboxes i; epochs = epochs i; subscriptions = (world_of old).subscriptions })
    ∙ λ i. with_row (world_of (c.self.view_is i)) (c.row.view_is i)
