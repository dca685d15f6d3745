use Rattle.std.proofs.Common.{◌≡◌, ◌++◌, filter, drop}
use Rattle.imap_listing.specs.Matching.{is_matched}
use Rattle.imap_listing.proofs.matching.push_matched.Given as goal

abbrev pub invariant-loop-name : goal.invariant-loop-name
invariant-loop-name l =
    l.listed.items ++ filter (is_matched l.patterns) (drop l.name-index l.names)
    ≡ l.initial.listed.items ++ filter (is_matched l.patterns) l.names
