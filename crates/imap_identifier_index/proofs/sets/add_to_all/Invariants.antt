use Rattle.std.proofs.Common.{take}
use Rattle.imap_identifier_index.specs.Sets.{IsAdded, is_listed}
use Rattle.imap_identifier_index.proofs.sets.add_to_all.Given as goal

abbrev pub invariant-loop-entry : goal.invariant-loop-entry
invariant-loop-entry l = IsAdded (λ id. is_listed id (take l.entry-index l.entries)) l.number l.fn.sets.map l.sets.map
