use Rattle.std.proofs.Common.{◌≡◌, ◌++◌, ◌+◌, drop}
use Rattle.imap_batch.specs.Batch.{flag_count}
use Rattle.imap_batch.specs.Batch.{own_marked}
use Rattle.imap_batch.proofs.own.push_own_marks.Given as goal

abbrev pub invariant-loop-mark : goal.invariant-loop-mark
invariant-loop-mark l = record {
  own : l.own.items ++ own_marked l.at (drop l.mark-index l.marks) ≡ l.fn.own.items ++ own_marked l.place l.marks;
  place : l.at + flag_count (drop l.mark-index l.marks) ≡ l.place + flag_count l.marks;
}
