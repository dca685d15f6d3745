use Rattle.std.proofs.Common.{◌≡◌, drop}
use Rattle.imap_hall.specs.Counts.{count_at}
use Rattle.imap_hall.proofs.own_counts.count_in.Given as goal

abbrev pub invariant-loop-entry : goal.invariant-loop-entry
invariant-loop-entry l = count_at (drop l.entry-index l.entries) l.number ≡ count_at l.fn.entries l.fn.number
