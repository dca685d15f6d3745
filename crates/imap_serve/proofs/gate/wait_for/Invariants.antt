use Rattle.std.specs.Prelude.{◌≤◌}
use Rattle.imap_serve.proofs.gate.wait_for.Given as goal

abbrev pub invariant-loop : goal.invariant-loop
invariant-loop g l = l.asked ≤ l.counter
