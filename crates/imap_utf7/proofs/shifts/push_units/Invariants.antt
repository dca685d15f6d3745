use Rattle.std.proofs.Common.{◌≡◌, ◌++◌, flat_map, take}
use Rattle.imap_utf7.specs.Shifts.{unit_octets}
use Rattle.imap_utf7.proofs.shifts.push_units.Given as goal

abbrev pub invariant-loop-unit : goal.invariant-loop-unit
invariant-loop-unit l = l.octets.items ≡ l.fn.octets.items ++ flat_map unit_octets (take l.unit-index l.units)
