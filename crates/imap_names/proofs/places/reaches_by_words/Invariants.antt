use Rattle.std.proofs.Common.{◌≤◌, length, drop}
use Rattle.imap_names.specs.Places.{AreAllReached}
use Rattle.imap_names.proofs.places.reaches_by_words.Given as goal

abbrev pub invariant-loop-n : goal.invariant-loop-n
invariant-loop-n l = record {
  within : l.n ≤ length l.pattern;
  reached : AreAllReached (drop l.n l.pattern) l.text l.words;
}

abbrev pub decreases-loop-n : goal.decreases-loop-n
decreases-loop-n l = l.n
