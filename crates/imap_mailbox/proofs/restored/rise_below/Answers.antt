use Rattle.imap_mailbox.proofs.Restoring.{past_end}
use Rattle.imap_mailbox.proofs.restored.rise_below.Goals as goal

pub returns-then-place-shared : goal.returns-then-place-shared
returns-then-place-shared c =
    ((λ f. absurd (cc f)), λ h. absurd (past_end _ _ _ _ c.loop-place-test.true c.if-place-shared.true (c.loop-place.invariant.rest.1 h)))
