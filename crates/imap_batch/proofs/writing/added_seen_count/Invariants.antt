use Rattle.std.proofs.Common.{◌≡◌, ◌+◌, ◌≤◌, drop}
use Rattle.imap_batch.specs.Batch.{added_seen_count}
use Rattle.imap_batch.proofs.writing.added_seen_count.Given as goal

abbrev pub invariant-loop-message : goal.invariant-loop-message
invariant-loop-message l = record {
  most : l.count ≤ l.message-index;
  total : l.count + added_seen_count (drop l.message-index l.added) ≡ added_seen_count l.added;
}
