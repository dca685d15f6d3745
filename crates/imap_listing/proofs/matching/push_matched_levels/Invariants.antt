use Rattle.std.proofs.Common.{◌≡◌, ◌++◌, filter, drop}
use Rattle.imap_listing.specs.Matching.{is_matched_level}
use Rattle.imap_listing.proofs.matching.push_matched_levels.Given as goal

abbrev pub invariant-loop-level : goal.invariant-loop-level
invariant-loop-level l =
    l.listed.items ++ filter (is_matched_level l.patterns) (drop l.level-index l.levels)
    ≡ l.initial.listed.items ++ filter (is_matched_level l.patterns) l.levels
