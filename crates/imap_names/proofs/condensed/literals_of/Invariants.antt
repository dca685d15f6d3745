use Rattle.std.proofs.Common.{◌≡◌, ◌≤◌, ◌+◌, ◌-◌, length, drop}
use Rattle.imap_names.specs.Condensed.{literals_of}
use Rattle.imap_names.proofs.condensed.literals_of.Given as goal

abbrev pub invariant-loop-n : goal.invariant-loop-n
invariant-loop-n l = record {
  few : l.literals ≤ l.n;
  within : l.n ≤ length l.pattern;
  sum : l.literals + literals_of (drop l.n l.pattern) ≡ literals_of l.pattern;
}

abbrev pub decreases-loop-n : goal.decreases-loop-n
decreases-loop-n l = length l.pattern - l.n
