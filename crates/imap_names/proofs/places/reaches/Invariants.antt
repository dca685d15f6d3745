use Rattle.std.proofs.Common.{◌≤◌, length, drop}
use Rattle.imap_names.specs.Places.{AreReached}
use Rattle.imap_names.proofs.places.reaches.Given as goal

abbrev pub invariant-loop-n : goal.invariant-loop-n
invariant-loop-n l = record {
  within : l.n ≤ length l.pattern;
  reached : AreReached (drop l.n l.pattern) l.text 0 l.places;
}

abbrev pub decreases-loop-n : goal.decreases-loop-n
decreases-loop-n l = l.n
