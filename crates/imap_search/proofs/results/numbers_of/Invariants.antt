use Rattle.std.proofs.Common.{◌≡◌, take}
use Rattle.imap_search.specs.Results.{numbers_of}
use Rattle.imap_search.proofs.results.numbers_of.Given as goal

abbrev pub invariant-loop-message : goal.invariant-loop-message
invariant-loop-message l = l.numbers.items ≡ numbers_of (take l.message-index l.found)
