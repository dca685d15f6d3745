use Rattle.std.specs.List.{AllByRecursion}
use Rattle.imap_records.specs.Values.{IsNewValue}
use Rattle.std.proofs.Common.{◌≡◌, ◌++◌, ◌+◌, map, drop}
use Rattle.imap_batch.specs.Entered.{messages_from}
use Rattle.imap_records.specs.Steps.{below_of, message_step}
use Rattle.imap_records.proofs.batch.push_added.Given as goal

abbrev pub invariant-loop-message : goal.invariant-loop-message
invariant-loop-message l = record {
  rows : map below_of l.changes.items ++ map message_step (messages_from l.next l.at (drop l.message-index l.added)) ≡ map below_of l.fn.changes.items ++ map message_step (messages_from l.uid l.place l.added);
  uid : l.next ≡ l.uid + l.message-index;
  place : l.at ≡ l.place + l.message-index;
  valid : AllByRecursion IsNewValue (drop l.message-index l.added) → AllByRecursion IsNewValue l.added;
}
