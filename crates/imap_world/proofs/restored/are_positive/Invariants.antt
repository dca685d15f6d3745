use Rattle.std.proofs.Common.{◌<◌, drop}
use Rattle.imap_world.proofs.Placed.{IsWalked}
use Rattle.imap_world.proofs.restored.are_positive.Given as goal

abbrev pub invariant-loop-entry : goal.invariant-loop-entry
invariant-loop-entry l = IsWalked (λ q v. 0 < v) l.entries (drop l.entry-index l.entries)
