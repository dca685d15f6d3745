-- The moment of a step.
use Rattle.std.specs.Prelude.{ℕ}
use Rattle.imap_syntax.specs.DayNumbers.{IsMomentAt}
use Rattle.imap_syntax.specs.Moments.{Moment}

-- it is written at +0000, and isn't before 1970
abbrev pub IsMoment : Moment → Type 0
IsMoment t = (seconds : ℕ) × IsMomentAt seconds t
