use Rattle.std.proofs.Common.{◌≡◌, refl, sym, subst, ◌∙◌}
use Rattle.imap_names.specs.Order.{Names}
use Rattle.imap_world.specs.Indexed.{IsIndexIn}
use Rattle.imap_world.specs.Kept.{AreKept, IsSound}
use Rattle.imap_world.specs.Parts.{StandFor}
use Rattle.imap_world.specs.Mailbox.{Mailbox, plain_all}
use Rattle.imap_world.specs.Stored.{Stored, world_of}
use Rattle.imap_world.proofs.Standing.{sound_of, unsound}
use Rattle.imap_world.proofs.world.World.from_parts.Goals as goal

pub returns-then-not-are_sound : goal.returns-then-not-are_sound
returns-then-not-are_sound c =
    unsound c.args.parts (plain_all c.in_ok-mailboxes.mailboxes.map) c.in_ok-epochs.epochs.map c.in_ok-mailboxes.ensures.0 c.in_ok-mailboxes.ensures.1 c.in_ok-epochs.ensures
    (λ counted placed. absurd (cc (sym c.if-not-are_sound.true ∙ c.are_sound.ensures.all counted placed)))

pub invariant_of-result : goal.invariant_of-result
invariant_of-result c =
    let found : Stored = record { mailboxes = c.in_ok-mailboxes.mailboxes; epochs = c.in_ok-epochs.epochs; subscriptions = c.in_ok-subscriptions.subscriptions } in
    let same : plain_all c.index_of.new.mailboxes.map ≡ plain_all found.mailboxes.map = c.index_of.ensures.contents in (
      subst (λ (m : Names Mailbox). IsSound (record (world_of found) { mailboxes = m })) (sym same)
          (sound_of (world_of found) (c.are_sound.ensures.counted c.if-not-are_sound.false) (c.are_sound.ensures.placed c.if-not-are_sound.false)),
      subst AreKept (sym same) c.in_ok-mailboxes.ensures.1,
      subst (IsIndexIn c.in_ok-index.index) (sym same) c.in_ok-index.ensures.index,
    )

pub returns : goal.returns
returns c =
    let found : Stored = record { mailboxes = c.in_ok-mailboxes.mailboxes; epochs = c.in_ok-epochs.epochs; subscriptions = c.in_ok-subscriptions.subscriptions } in
    subst (λ (m : Names Mailbox). StandFor c.args.parts (record (world_of found) { mailboxes = m })) (sym c.index_of.ensures.contents)
    (record {
      mailboxes = c.in_ok-mailboxes.ensures.0;
      epochs = c.in_ok-epochs.ensures;
      subscriptions = c.in_ok-subscriptions.ensures (world_of found) refl;
    })
