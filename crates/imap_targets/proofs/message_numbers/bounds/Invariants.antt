use Rattle.std.proofs.Common.{drop}
use Rattle.imap_targets.proofs.Spanned.{AreBoundsFor}
use Rattle.imap_targets.proofs.message_numbers.bounds.Given as goal

abbrev pub invariant-loop-range : goal.invariant-loop-range
invariant-loop-range l = AreBoundsFor l.last l.fn.ranges (drop l.range-index l.ranges) l.low l.high
