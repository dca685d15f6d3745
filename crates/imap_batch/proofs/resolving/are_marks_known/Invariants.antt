use Rattle.std.proofs.Common.{◌≡◌, drop}
use Rattle.imap_mailbox.specs.Summary.{uids_in}
use Rattle.imap_batch.specs.Batch.{are_known, mark_uids}
use Rattle.imap_batch.proofs.resolving.are_marks_known.Given as goal

abbrev pub invariant-loop-mark : goal.invariant-loop-mark
invariant-loop-mark l =
    are_known l.low (mark_uids (drop l.mark-index l.marks)) (uids_in l.mailbox.messages)
    ≡ are_known 0 (mark_uids l.marks) (uids_in l.mailbox.messages)
