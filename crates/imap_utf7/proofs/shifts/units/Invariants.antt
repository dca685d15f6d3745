use Rattle.std.proofs.Common.{◌≡◌, ◌++◌, length}
use Rattle.imap_utf7.specs.Shifts.{units}
use Rattle.imap_utf7.proofs.shifts.units.Given as goal

abbrev pub decreases-loop-rest : goal.decreases-loop-rest
decreases-loop-rest l = length l.rest

abbrev pub invariant-loop-rest : goal.invariant-loop-rest
invariant-loop-rest l = l.all.items ++ units l.rest ≡ units l.octets
