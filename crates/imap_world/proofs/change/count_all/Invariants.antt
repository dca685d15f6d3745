use Rattle.std.proofs.Common.{◌≡◌, take}
use Rattle.imap_world.specs.Ready.{counts_of}
use Rattle.imap_world.proofs.change.count_all.Given as goal

abbrev pub invariant-loop-write : goal.invariant-loop-write
invariant-loop-write l = l.count ≡ counts_of (take l.write-index l.writes)
