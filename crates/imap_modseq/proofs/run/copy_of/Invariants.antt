use Rattle.std.proofs.Common.{◌≡◌, take}
use Rattle.std.specs.Vec.{vec_capacity}
use Rattle.imap_modseq.proofs.run.copy_of.Given as goal

abbrev pub invariant-loop-run : goal.invariant-loop-run
invariant-loop-run l = record {
  items : l.copy.items ≡ take l.run-index l.runs.items;
  capacity : vec_capacity l.copy ≡ vec_capacity l.runs;
}
