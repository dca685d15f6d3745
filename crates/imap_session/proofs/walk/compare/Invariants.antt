use Rattle.std.proofs.Common.{◌≡◌, ◌+◌, ◌-◌, ◌≤◌, drop, length}
use Rattle.imap_session.specs.ByUid.{AgreeByUid}
use Rattle.imap_session.specs.Walked.{finished, findings}
use Rattle.imap_session.proofs.walk.compare.Given as goal

abbrev pub invariant-loop-place : goal.invariant-loop-place
invariant-loop-place g l =
    record {
      finds : finished l.told l.options l.up_to l.walk (drop l.place l.known.list) (g.C.RowCursor.rest l.rows)
          ≡ findings l.told l.options l.up_to l.known.list (g.C.RowCursor.rest l.fn.rows);
      agree : AgreeByUid l.up_to (drop l.place l.known.list) (g.C.RowCursor.rest l.rows);
      number : l.walk.number ≤ l.place + 1;
      within : l.place ≤ length l.known.list;
    }

abbrev pub decreases-loop-place : goal.decreases-loop-place
decreases-loop-place g l = length l.known.list - l.place
