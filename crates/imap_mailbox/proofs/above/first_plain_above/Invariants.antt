use Rattle.std.proofs.Common.{map}
use Rattle.imap_mailbox.specs.Above.{AreAtMostFrom}
use Rattle.imap_mailbox.specs.Own.{no_own}
use Rattle.imap_mailbox.specs.Summary.{row_in}
use Rattle.imap_mailbox.proofs.above.first_plain_above.Given as goal

abbrev pub invariant-loop-place : goal.invariant-loop-place
invariant-loop-place l = AreAtMostFrom l.number l.start l.place (map (row_in no_own) l.messages)
