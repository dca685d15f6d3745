use Rattle.std.proofs.Common.{refl, sym, subst, arith}
use Rattle.imap_world.specs.Indexed.{IsIndexIn}
use Rattle.imap_world.specs.Kept.{AreKept}
use Rattle.imap_world.specs.Mailbox.{plain_all}
use Rattle.imap_world.specs.Ready.{Leaves}
use Rattle.imap_world.specs.Stored.{Stored, world_of}
use Rattle.imap_world.proofs.KeptMessages.{kept_with_list}
use Rattle.imap_world.proofs.Room.{mailboxes_leave}
use Rattle.imap_world.proofs.Sound.{list_is_sound}
use Rattle.imap_world.proofs.world.World.put_list.Goals as goal

pub invariant_of-self : goal.invariant_of-self
invariant_of-self c =
    let old : Stored = record { mailboxes = c.self.inside.mailboxes; epochs = c.self.inside.epochs; subscriptions = c.self.inside.subscriptions } in
    let new : Stored = record old { mailboxes = c.put_acl.new.mailboxes } in (
      list_is_sound (world_of old) (world_of new) c.args.name.now c.args.acl c.put_acl.ensures.mailboxes refl c.self.invariant.0,
      subst AreKept (sym c.put_acl.ensures.mailboxes) (kept_with_list (plain_all old.mailboxes.map) c.self.invariant.1 c.args.name.now c.args.acl _ refl),
      subst (IsIndexIn c.set_list_in_index.new.index) (sym c.put_acl.ensures.mailboxes) (c.set_list_in_index.ensures c.self.invariant.2),
    )

pub returns-clause-room : goal.returns-clause-room
returns-clause-room c =
    let old : Stored = record { mailboxes = c.self.inside.mailboxes; epochs = c.self.inside.epochs; subscriptions = c.self.inside.subscriptions } in
    let new : Stored = record old { mailboxes = c.put_acl.new.mailboxes } in
    subst (λ s. Leaves 0 s new) c.self.view_is (mailboxes_leave 0 old new refl (omega (arith, c.put_acl.ensures.spare)) (omega (arith)))
