use Rattle.std.proofs.Common.{◌≡◌, ◌++◌, ◌+◌, drop}
use Rattle.imap_batch.specs.Batch.{own_added}
use Rattle.imap_batch.proofs.own.push_own_added.Given as goal

abbrev pub invariant-loop-message : goal.invariant-loop-message
invariant-loop-message l = record {
  own : l.own.items ++ own_added l.next l.at (drop l.message-index l.added) ≡ l.fn.own.items ++ own_added l.uid l.place l.added;
  uid : l.next ≡ l.uid + l.message-index;
  place : l.at ≡ l.place + l.message-index;
}
