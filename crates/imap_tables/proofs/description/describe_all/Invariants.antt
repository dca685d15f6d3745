use Rattle.std.proofs.Common.{◌≡◌, ◌↔◌, map, length}
use Rattle.imap_tables.proofs.description.describe_all.Given as goal

abbrev pub invariant-loop-parts : goal.invariant-loop-parts
invariant-loop-parts g l =
    (l.parts ≡ map g.D.Description.described l.descriptions)
    ↔ (l.fn.parts ≡ map g.D.Description.described l.fn.descriptions)

abbrev pub decreases-loop-parts : goal.decreases-loop-parts
decreases-loop-parts g l = length l.parts
