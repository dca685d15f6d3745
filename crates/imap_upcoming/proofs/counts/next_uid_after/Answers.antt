use Rattle.std.proofs.Common.{ap, length, arith}
use Rattle.imap_batch.proofs.Entering.{writes_are_entered}
use Rattle.imap_mailbox.specs.Held.{summary_in}
use Rattle.imap_upcoming.proofs.counts.next_uid_after.Goals as goal

pub returns : goal.returns
returns c =
    let entered = writes_are_entered (summary_in c.args.mailbox.now) c.args.write.now c.requires in
    omega (arith, entered.next, c.next_uid-next.ensures.next, ap length c.as_slice.ensures)
