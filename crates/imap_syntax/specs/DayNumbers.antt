-- Days and moments as numbers (the proleptic Gregorian calendar, on a clock whose days have 24 hours).
use Rattle.std.specs.Prelude.{◌≡◌, ℕ, ◌+◌, ◌*◌, false, ℤ, pos, ◌+ℤ◌, ◌*ℤ◌}
use Rattle.jiff_core.specs.Calendar.{days_from_civil}
use Rattle.imap_syntax.specs.declared.month.Month.{Month}
use Rattle.imap_syntax.specs.Calendar.{month_number}
use Rattle.imap_syntax.specs.Moments.{Day, Offset, Moment}

-- the days from 1-Jan-1970 to a day, less than none before it
abbrev pub day_number : Day → ℤ
day_number d = days_from_civil (pos d.year) (month_number d.month) d.day

-- greater for each later day, since no month has 32 days
abbrev pub order_of : (year : ℕ) → Month → (day : ℕ) → ℕ
order_of year month day = year * 512 + month_number month * 32 + day

abbrev pub IsNumbered : ℕ → Day → Type 0
IsNumbered number d = day_number d ≡ pos number

-- 31-Dec-9999
abbrev pub max_day : ℕ
max_day = 2932896

-- the last second of 31-Dec-9999
abbrev pub max_moment : ℕ
max_moment = 253402300799

-- the seconds of a clock since midnight
abbrev pub clock_seconds : Moment → ℕ
clock_seconds t = t.hour * 3600 + t.minute * 60 + t.second

abbrev pub utc : Offset
utc = record { west = false; hours = 0; minutes = 0 }

-- the moment is this number of seconds after the beginning of 1-Jan-1970 in UTC, and written at +0000
pub record IsMomentAt (seconds : ℕ) (t : Moment) : Type 0 where
  pub is_utc : t.zone ≡ utc
  pub sum : day_number t.date *ℤ pos 86400 +ℤ pos (clock_seconds t) ≡ pos seconds
