use Rattle.std.proofs.Common.{length, ◌-◌, ◌≤◌, take}
use Rattle.imap_names.specs.Walk.{AreSpelled}
use Rattle.imap_names.proofs.wildcards.spelled.Given as goal

abbrev pub invariant-loop-n : goal.invariant-loop-n
invariant-loop-n l = record {
  in_pattern : l.n ≤ length l.pattern;
  in_text : l.n ≤ length l.text;
  same : AreSpelled (take l.n l.pattern) (take l.n l.text);
}

abbrev pub decreases-loop-n : goal.decreases-loop-n
decreases-loop-n l = length l.pattern - l.n
