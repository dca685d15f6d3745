use Rattle.std.proofs.Common.{◌≡◌, ◌↔◌, drop}
use Rattle.imap_modseq.proofs.run.are_same.Given as goal

abbrev pub invariant-loop-run : goal.invariant-loop-run
invariant-loop-run l = (drop l.run-index l.runs ≡ l.rest) ↔ (l.runs ≡ l.others)
