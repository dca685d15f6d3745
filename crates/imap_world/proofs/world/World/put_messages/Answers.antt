use Rattle.std.proofs.Common.{refl, sym, subst, arith}
use Rattle.imap_world.specs.Indexed.{IsIndexIn}
use Rattle.imap_world.specs.Kept.{AreKept}
use Rattle.imap_world.specs.Mailbox.{plain_all}
use Rattle.imap_world.specs.Messages.{with_messages}
use Rattle.imap_world.specs.Ready.{Leaves, MayChangeParts}
use Rattle.imap_world.specs.Stored.{Stored, world_of}
use Rattle.imap_world.proofs.ListsChanged.{alike, lists_parts}
use Rattle.imap_world.proofs.Parts.{kept_parts, parts_are_sound}
use Rattle.imap_world.proofs.Room.{mailboxes_leave}
use Rattle.imap_world.proofs.Sound.{same_is_sound}
use Rattle.imap_world.proofs.world.World.put_messages.Goals as goal

pub invariant_of-self : goal.invariant_of-self
invariant_of-self c =
    let old : Stored = record { mailboxes = c.self.inside.mailboxes; epochs = c.self.inside.epochs; subscriptions = c.self.inside.subscriptions } in
    let new : Stored = record old { mailboxes = c.write_parts.new.mailboxes } in
    let may : MayChangeParts (plain_all old.mailboxes.map) c.args.part c.args.other = subst (λ (s : Stored). MayChangeParts (plain_all s.mailboxes.map) c.args.part c.args.other) (sym c.self.view_is) c.requires.may in (
      same_is_sound (with_messages (world_of old) c.args.part c.args.other) (world_of new) c.write_parts.ensures.mailboxes refl
          (parts_are_sound (world_of old) c.args.part c.args.other c.self.invariant.0),
      subst AreKept (sym c.write_parts.ensures.mailboxes) (kept_parts (plain_all old.mailboxes.map) c.self.invariant.1 c.args.part c.args.other may),
      subst (IsIndexIn c.self.inside.index) (sym c.write_parts.ensures.mailboxes)
          (alike c.self.inside.index _ _ (lists_parts (plain_all old.mailboxes.map) c.args.part c.args.other) c.self.invariant.2),
    )

pub returns-clause-room : goal.returns-clause-room
returns-clause-room c =
    let old : Stored = record { mailboxes = c.self.inside.mailboxes; epochs = c.self.inside.epochs; subscriptions = c.self.inside.subscriptions } in
    let new : Stored = record old { mailboxes = c.write_parts.new.mailboxes } in
    subst (λ s. Leaves 0 s new) c.self.view_is (mailboxes_leave 0 old new refl (omega (arith, c.write_parts.ensures.spare)) (omega (arith)))
