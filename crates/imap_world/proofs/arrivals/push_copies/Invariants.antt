use Rattle.std.proofs.Common.{◌≡◌, ◌++◌, take}
use Rattle.imap_world.proofs.arrivals.push_copies.Given as goal

abbrev pub invariant-loop-entry : goal.invariant-loop-entry
invariant-loop-entry l = l.arrivals ≡ l.fn.arrivals ++ take l.entry-index l.entries
