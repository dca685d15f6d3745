use Rattle.std.proofs.Common.{◌≡◌, ◌++◌, drop}
use Rattle.imap_search.specs.Ranges.{reaching}
use Rattle.imap_search.proofs.ranges.reaching.Given as goal

abbrev pub invariant-loop-range : goal.invariant-loop-range
invariant-loop-range l = l.found.items ++ reaching l.highest (drop l.range-index l.ranges) ≡ reaching 0 l.ranges
