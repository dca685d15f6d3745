use Rattle.std.proofs.Common.{◌≡◌, map, take}
use Rattle.imap_search.specs.Ranges.{range_of}
use Rattle.imap_search.proofs.ranges.ranges_of.Given as goal

abbrev pub invariant-loop-range : goal.invariant-loop-range
invariant-loop-range l = l.found.items ≡ map (range_of l.last) (take l.range-index l.ranges)
