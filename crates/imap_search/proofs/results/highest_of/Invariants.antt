use Rattle.std.proofs.Common.{◌≡◌, drop, max}
use Rattle.imap_search.specs.Results.{highest_of}
use Rattle.imap_search.proofs.results.highest_of.Given as goal

abbrev pub invariant-loop-message : goal.invariant-loop-message
invariant-loop-message l = max l.highest (highest_of (drop l.message-index l.found)) ≡ highest_of l.found
