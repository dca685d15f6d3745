use Rattle.imap_resync.proofs.Changing.{IsSoFar}
use Rattle.imap_resync.proofs.changed.lines_of_rows.Given as goal

abbrev pub invariant-loop-place : goal.invariant-loop-place
invariant-loop-place l = IsSoFar l.since l.uids l.rows l.place l.lines.items
