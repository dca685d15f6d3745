use Rattle.imap_mailbox.proofs.Restoring.{run_past_end}
use Rattle.imap_mailbox.proofs.restored.is_run.Goals as goal

pub returns-then-uid-next : goal.returns-then-uid-next
returns-then-uid-next c =
    ((λ f. absurd (cc f)), λ h. absurd (run_past_end _ _ _ _ c.loop-uid-test.true c.if-uid-next.true (c.loop-uid.invariant.1 h)))
