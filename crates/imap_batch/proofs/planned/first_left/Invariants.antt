use Rattle.std.proofs.Common.{◌≡◌, drop}
use Rattle.imap_batch.specs.Planned.{rows_left, marked_by, CanMark}
use Rattle.imap_batch.proofs.planned.first_left.Given as goal

abbrev pub invariant-loop-at : goal.invariant-loop-at
invariant-loop-at l = record {
  rows : rows_left l.expunged (marked_by l.later (drop l.at l.rows)) ≡ rows_left l.expunged (marked_by l.marks (drop l.place l.rows));
  marks : CanMark l.later;
}
