use Rattle.std.proofs.Common.{sym, ◌∙◌}
use Rattle.imap_world.specs.Stored.{Stored}
use Rattle.imap_world.proofs.OneWorld.{if_three, if_viewed}
use Rattle.imap_world.proofs.world.World.same.Goals as goal
use Rattle.imap_world.proofs.world.World.same.Goals.{then-is_same, else-is_same}

pub returns-then-is_same-2 : goal.returns-then-is_same-2
returns-then-is_same-2 c =
    let a : Stored = record { mailboxes = c.self.inside.mailboxes; epochs = c.self.inside.epochs; subscriptions = c.self.inside.subscriptions } in
    let b : Stored = record { mailboxes = c.other.inside.mailboxes; epochs = c.other.inside.epochs; subscriptions = c.other.inside.subscriptions } in
    if_viewed a b c.args.self.now c.args.other.now c.is_same-then-is_same-2.result c.self.view_is c.other.view_is
    (elim c.if-is_same.branch [
      | then-is_same w ↦ if_three a b c.is_same-then-is_same-2.result (c.is_same.ensures.0 w.if-is_same.true) (w.is_same-then-is_same.ensures.0 (sym w.value-is ∙ c.if-is_same-2.true)) c.is_same-then-is_same-2.ensures
      | else-is_same w ↦ absurd (cc (sym w.value-is ∙ c.if-is_same-2.true))
    ])
