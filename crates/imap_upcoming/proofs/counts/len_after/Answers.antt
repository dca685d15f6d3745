use Rattle.std.proofs.Common.{ap, length, arith}
use Rattle.imap_mailbox.specs.Held.{summary_in}
use Rattle.imap_upcoming.proofs.Counted.{len_counted}
use Rattle.imap_upcoming.proofs.counts.len_after.Goals as goal

pub overflow_sub-result : goal.overflow_sub-result
overflow_sub-result c =
    let counted = len_counted c.args.write.now.batch (summary_in c.args.mailbox.now) c.requires.messages c.messages-count.ensures.valid in
    omega (arith, counted, ap length c.messages-count.ensures.messages, ap length c.as_slice-added.ensures, ap length c.as_slice-expunged.ensures)

pub returns : goal.returns
returns c =
    let counted = len_counted c.args.write.now.batch (summary_in c.args.mailbox.now) c.requires.messages c.messages-count.ensures.valid in
    omega (arith, counted, ap length c.messages-count.ensures.messages, ap length c.as_slice-added.ensures, ap length c.as_slice-expunged.ensures)
