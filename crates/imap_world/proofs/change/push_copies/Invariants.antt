use Rattle.std.proofs.Common.{◌≡◌, ◌++◌, take}
use Rattle.imap_world.proofs.change.push_copies.Given as goal

abbrev pub invariant-loop-write : goal.invariant-loop-write
invariant-loop-write l = l.copies.items ≡ l.fn.copies.items ++ take l.write-index l.writes
