use Rattle.std.proofs.Common.{length, ◌-◌, ◌≤◌, flat_map, take}
use Rattle.std.specs.Io.KnownBytes.{Appends}
use Rattle.imap_serve.proofs.telling.say_by.Given as goal

-- the first replies were written
abbrev pub invariant-loop-done : goal.invariant-loop-done
invariant-loop-done g l = (l.done ≤ length l.replies) × Appends (g.O.Write.contents l.fn.output.inner) (g.O.Write.contents l.output.inner) (flat_map (g.D.Dialect.octets l.rule) (take l.done l.replies))

abbrev pub decreases-loop-done : goal.decreases-loop-done
decreases-loop-done g l = length l.replies - l.done
