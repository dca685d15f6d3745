use Rattle.std.proofs.Common.{take}
use Rattle.imap_identifier_index.specs.Sets.{IsTaken, is_listed}
use Rattle.imap_identifier_index.proofs.sets.take_from_all.Given as goal

abbrev pub invariant-loop-entry : goal.invariant-loop-entry
invariant-loop-entry l = IsTaken (λ id. is_listed id (take l.entry-index l.entries)) l.number l.fn.sets.map l.sets.map
