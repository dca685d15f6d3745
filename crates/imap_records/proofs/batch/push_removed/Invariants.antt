use Rattle.std.proofs.Common.{◌≡◌, ◌++◌, map, drop}
use Rattle.imap_records.specs.Steps.{RemoveMessage, below_of}
use Rattle.imap_records.proofs.batch.push_removed.Given as goal

abbrev pub invariant-loop-uid : goal.invariant-loop-uid
invariant-loop-uid l = map below_of l.changes.items ++ map RemoveMessage (drop l.uid-index l.uids) ≡ map below_of l.fn.changes.items ++ map RemoveMessage l.uids
