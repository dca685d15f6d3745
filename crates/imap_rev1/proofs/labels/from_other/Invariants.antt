use Rattle.std.proofs.Common.{◌≡◌, length}
use Rattle.imap_rev1.specs.Labels.{from_other}
use Rattle.imap_rev1.proofs.labels.from_other.Given as goal

abbrev pub invariant-loop-body : goal.invariant-loop-body
invariant-loop-body l = from_other l.rest ≡ from_other l.bodies

abbrev pub decreases-loop-body : goal.decreases-loop-body
decreases-loop-body l = length l.rest
