use Rattle.std.proofs.Common.{map}
use Rattle.imap_mailbox.specs.Above.{AreAtMostFrom}
use Rattle.imap_mailbox.specs.Summary.{row_in}
use Rattle.imap_mailbox.proofs.above.first_own_above.Given as goal

abbrev pub invariant-loop-place : goal.invariant-loop-place
invariant-loop-place l = AreAtMostFrom l.number l.start l.place (map (row_in l.own.own) l.messages)
