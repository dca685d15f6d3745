use Rattle.std.proofs.Common.{◌≡◌, ◌++◌, ◌≤◌, drop, take, vec_len, length}
use Rattle.std.specs.Vec.{vec_capacity}
use Rattle.std.specs.List.{AllByRecursion}
use Rattle.imap_core.specs.Machine.{answers, after_steps}
use Rattle.imap_core.specs.Planned.{ArePrintable, replies_in}
use Rattle.imap_core.proofs.machine.Core.run.Given as goal

abbrev pub invariant-loop-step : goal.invariant-loop-step
invariant-loop-step l = record {
  told : replies_in l.said ++ answers l.self.state (drop l.step-index l.steps) ≡ answers l.fn.self.state l.steps;
  rest : after_steps l.self.state (drop l.step-index l.steps) ≡ after_steps l.fn.self.state l.steps;
  made : l.self.state ≡ after_steps l.fn.self.state (take l.step-index l.steps);
  printable : AllByRecursion ArePrintable l.said.items;
  count : vec_len l.said ≡ l.step-index;
  room : length l.steps ≤ vec_capacity l.said;
}
