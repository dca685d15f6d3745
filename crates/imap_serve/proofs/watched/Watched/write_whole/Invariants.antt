use Rattle.std.proofs.Common.{length, ◌-◌, ◌≤◌, take}
use Rattle.std.specs.Io.KnownBytes.{Appends}
use Rattle.imap_serve.proofs.watched.Watched.write_whole.Given as goal

-- the first octets were written
abbrev pub invariant-loop-done : goal.invariant-loop-done
invariant-loop-done g l = (l.done ≤ length l.bytes) × Appends (g.O.Write.contents l.fn.self.inner) (g.O.Write.contents l.self.inner) (take l.done l.bytes)

abbrev pub decreases-loop-done : goal.decreases-loop-done
decreases-loop-done g l = length l.bytes - l.done
