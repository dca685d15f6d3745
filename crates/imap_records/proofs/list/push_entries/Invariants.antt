use Rattle.std.proofs.Common.{◌≡◌, ◌++◌, map, drop}
use Rattle.imap_records.specs.Steps.{below_of, entry_step}
use Rattle.imap_rights.specs.Entries.{pairs_of}
use Rattle.imap_records.proofs.list.push_entries.Given as goal

abbrev pub invariant-loop-entry : goal.invariant-loop-entry
invariant-loop-entry l = map below_of l.changes.items ++ map entry_step (pairs_of (drop l.entry-index l.entries)) ≡ map below_of l.fn.changes.items ++ map entry_step (pairs_of l.entries)
