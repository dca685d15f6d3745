use Rattle.std.proofs.Common.{◌≡◌, ◌≤◌, false, refl, subst, sym, ap, ◌∙◌, arith}
use Rattle.std.specs.FinMap as map
use Rattle.imap_name_map.specs.Rows.{has_below}
use Rattle.imap_world.specs.Indexed.{IsIndexIn}
use Rattle.imap_world.specs.Kept.{AreKept}
use Rattle.imap_world.specs.Mailbox.{plain_all}
use Rattle.imap_world.specs.Ready.{Leaves}
use Rattle.imap_world.specs.Stored.{Stored, world_of}
use Rattle.imap_world.specs.Tree.{without}
use Rattle.imap_world.proofs.Contents.{plain_without}
use Rattle.imap_world.proofs.KeptMessages.{kept_without}
use Rattle.imap_world.proofs.Room.{len_without, mailboxes_leave}
use Rattle.imap_world.proofs.Sound.{removed_is_sound}
use Rattle.imap_world.proofs.world.World.remove.Goals as goal

pub invariant_of-self : goal.invariant_of-self
invariant_of-self c =
    let old : Stored = record { mailboxes = c.self.inside.mailboxes; epochs = c.self.inside.epochs; subscriptions = c.self.inside.subscriptions } in
    let new : Stored = record old { mailboxes = c.remove.new.self } in
    let free : has_below c.args.name.now (plain_all old.mailboxes.map) ≡ false =
    ap (λ (s : Stored). has_below c.args.name.now (plain_all s.mailboxes.map)) c.self.view_is ∙ c.requires in
    let mailboxes : plain_all new.mailboxes.map ≡ map.remove (plain_all old.mailboxes.map) c.args.name.now =
    ap plain_all c.remove.ensures.map ∙ plain_without old.mailboxes.map c.args.name.now in (
      removed_is_sound (world_of old) (world_of new) c.args.name.now mailboxes refl free c.self.invariant.0,
      subst AreKept (sym mailboxes) (kept_without (plain_all old.mailboxes.map) c.self.invariant.1 c.args.name.now),
      subst (IsIndexIn c.remove_from_index.new.index) (sym mailboxes) (c.remove_from_index.ensures c.self.invariant.2),
    )

pub returns-clause-room : goal.returns-clause-room
returns-clause-room c =
    let old : Stored = record { mailboxes = c.self.inside.mailboxes; epochs = c.self.inside.epochs; subscriptions = c.self.inside.subscriptions } in
    let new : Stored = record old { mailboxes = c.remove.new.self } in
    let fewer : map.len c.remove.new.self.map ≤ map.len old.mailboxes.map =
    subst (λ m. map.len m ≤ map.len old.mailboxes.map) (sym c.remove.ensures.map) (len_without old.mailboxes.map c.args.name.now) in
    subst (λ s. Leaves 0 s new) c.self.view_is (mailboxes_leave 0 old new refl (omega (arith, fewer, c.remove.ensures.spare)) (omega (arith)))

pub returns-clause-world : goal.returns-clause-world
returns-clause-world c =
    let old : Stored = record { mailboxes = c.self.inside.mailboxes; epochs = c.self.inside.epochs; subscriptions = c.self.inside.subscriptions } in
    let mailboxes : plain_all c.remove.new.self.map ≡ map.remove (plain_all old.mailboxes.map) c.args.name.now =
    ap plain_all c.remove.ensures.map ∙ plain_without old.mailboxes.map c.args.name.now in
    (λ i. record { mailboxes = mailboxes i; epochs = old.epochs.map; subscriptions = (world_of old).subscriptions })
    ∙ ap (λ (s : Stored). without (world_of s) c.args.name.now) c.self.view_is
