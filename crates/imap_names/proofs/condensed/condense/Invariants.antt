use Rattle.std.proofs.Common.{◌≡◌, ◌≤◌, ◌-◌, ◌++◌, length, drop}
use Rattle.imap_names.specs.Condensed.{run_tokens}
use Rattle.imap_names.specs.MatchTest.{letters_match}
use Rattle.imap_names.proofs.condensed.condense.Given as goal

abbrev pub invariant-loop-n : goal.invariant-loop-n
invariant-loop-n l = record {
  within : l.n ≤ length l.pattern;
  same : letters_match (l.condensed.items ++ (run_tokens l.run ++ drop l.n l.pattern)) ≡ letters_match l.pattern;
}

abbrev pub decreases-loop-n : goal.decreases-loop-n
decreases-loop-n l = length l.pattern - l.n
