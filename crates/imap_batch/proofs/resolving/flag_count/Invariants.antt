use Rattle.std.proofs.Common.{◌≡◌, ◌+◌, ◌≤◌, drop}
use Rattle.imap_batch.specs.Batch.{flag_count}
use Rattle.imap_batch.proofs.resolving.flag_count.Given as goal

abbrev pub invariant-loop-mark : goal.invariant-loop-mark
invariant-loop-mark l = record {
  most : l.count ≤ l.mark-index;
  total : l.count + flag_count (drop l.mark-index l.marks) ≡ flag_count l.marks;
}
