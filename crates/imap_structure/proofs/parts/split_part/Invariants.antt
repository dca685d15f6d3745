use Rattle.std.proofs.Common.{length}
use Rattle.imap_structure.specs.Parts.{IsReadUpTo}
use Rattle.imap_structure.proofs.parts.split_part.Given as goal

abbrev pub invariant-loop-line : goal.invariant-loop-line
invariant-loop-line l = IsReadUpTo l.boundary l.octets l.rest

abbrev pub decreases-loop-line : goal.decreases-loop-line
decreases-loop-line l = length l.rest
