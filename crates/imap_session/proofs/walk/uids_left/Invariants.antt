use Rattle.std.proofs.Common.{◌≡◌, ◌++◌, length}
use Rattle.imap_mailbox.specs.Lent.{row_uids}
use Rattle.imap_session.proofs.walk.uids_left.Given as goal

abbrev pub invariant-loop-uids : goal.invariant-loop-uids
invariant-loop-uids g l = l.uids.items ++ row_uids (g.C.RowCursor.rest l.rows) ≡ row_uids (g.C.RowCursor.rest l.fn.rows)

abbrev pub decreases-loop-uids : goal.decreases-loop-uids
decreases-loop-uids g l = length (g.C.RowCursor.rest l.rows)
