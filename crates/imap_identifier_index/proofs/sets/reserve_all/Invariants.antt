use Rattle.imap_identifier_index.specs.Sets.{AreSame}
use Rattle.imap_identifier_index.proofs.sets.reserve_all.Given as goal

abbrev pub invariant-loop-entry : goal.invariant-loop-entry
invariant-loop-entry l = AreSame l.fn.sets.map l.sets.map
