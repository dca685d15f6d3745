use Rattle.std.proofs.Common.{◌≡◌, ◌+◌, ◌≤◌, drop}
use Rattle.imap_batch.specs.Batch.{mark_seen_count}
use Rattle.imap_batch.proofs.writing.mark_seen_count.Given as goal

abbrev pub invariant-loop-mark : goal.invariant-loop-mark
invariant-loop-mark l = record {
  most : l.count ≤ l.mark-index;
  total : l.count + mark_seen_count (drop l.mark-index l.marks) ≡ mark_seen_count l.marks;
}
