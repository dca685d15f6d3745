use Rattle.std.proofs.Common.{◌≡◌, ◌≤◌}
use Rattle.imap_upcoming.proofs.planned_rows.PlannedRowsRowCursor.skip_known.Given as goal

abbrev pub invariant-loop-len : goal.invariant-loop-len
invariant-loop-len l = record {
  rows : l.self-inside.rows ≡ l.initial.self-inside.rows;
  count : l.self-inside.len ≡ l.initial.self-inside.len;
  few : l.len ≤ l.left;
}

abbrev pub decreases-loop-len : goal.decreases-loop-len
decreases-loop-len l = l.len
