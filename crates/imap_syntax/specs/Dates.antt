-- Dates and times (RFC 9051, section 9).
use Rattle.std.specs.Prelude.{ℕ, ◌/◌, ◌%◌, ◌==◌, Bool, true, false, ◌&&◌, not, nat_lt, List}
use Rattle.std.specs.Prelude.{length, if◌then◌else◌, Option, Some, None}
use Rattle.std.specs.Option.{option_and_then}
use Rattle.std.specs.Char.{is_ascii_digit}
use Rattle.imap_syntax.specs.declared.month.TheConstants.{MONTHS}
use Rattle.imap_syntax.specs.Calendar.{month_name, day_exists}
use Rattle.imap_syntax.specs.Moments.{Day, Offset, Moment}
use Rattle.imap_syntax.specs.Rule.{Rule, give, ◌>>=◌, ◌>>◌, octet, some_of, when, flag, keyword}
use Rattle.imap_syntax.specs.Lexical.{is_word_char, decimal}

-- least to most digits
abbrev pub digits_of : (least most : ℕ) → Rule ℕ
digits_of least most = do
  digits ← some_of is_ascii_digit
  when (not (nat_lt (length digits) least) && not (nat_lt most (length digits))) (decimal digits)

-- `date-text` after its day
abbrev pub date_behind_day : (day : ℕ) → Rule Day
date_behind_day day = do
  octet 45
  month ← keyword is_word_char month_name MONTHS
  octet 45
  year ← digits_of 4 4
  when (day_exists year month day) (record { year = year; month = month; day = day })

-- `date-text`
abbrev pub date_text : Rule Day
date_text = do
  day ← digits_of 1 2
  date_behind_day day

abbrev pub date_behind : Bool → Rule Day
date_behind false = date_text
date_behind true = do
  quoted ← date_text
  octet 34
  give quoted

-- `date`: date-text / DQUOTE date-text DQUOTE
abbrev pub date : Rule Day
date = do
  quote ← flag 34
  date_behind quote

-- ---- `date-time`

abbrev pub day_behind : Bool → Rule ℕ
day_behind true = digits_of 1 1
day_behind false = digits_of 2 2

-- `date-day-fixed`: (SP DIGIT) / 2DIGIT
abbrev pub day_fixed : Rule ℕ
day_fixed = do
  space ← flag 32
  day_behind space

-- two digits of a number below the limit
abbrev pub below : (limit : ℕ) → Rule ℕ
below limit = do
  number ← digits_of 2 2
  when (nat_lt number limit) number

abbrev pub west_behind : Bool → Rule Bool
west_behind true = give true
west_behind false = do
  octet 43
  give false

-- `zone`: ("+" / "-") 4DIGIT
abbrev pub zone : Rule Offset
zone = do
  minus ← flag 45
  west ← west_behind minus
  number ← digits_of 4 4
  when (nat_lt (number / 100) 24 && nat_lt (number % 100) 60)
      (record { west = west; hours = number / 100; minutes = number % 100 })

-- `date-time` without its quotes
abbrev pub date_time_text : Rule Moment
date_time_text = do
  day ← day_fixed
  date ← date_behind_day day
  octet 32
  hour ← below 24
  octet 58
  minute ← below 60
  octet 58
  second ← below 60
  octet 32
  from_utc ← zone
  give (record { date = date; hour = hour; minute = minute; second = second; zone = from_utc })

-- `date-time` after its first quote
abbrev pub date_time_end : Rule Moment
date_time_end = do
  moment ← date_time_text
  octet 34
  give moment

-- what was read, if no octet is left
abbrev pub nothing_left : Moment × List ℕ → Option Moment
nothing_left found = if length found.1 == 0 then Some found.0 else None

-- the moment of a text of `date-time` without its quotes
abbrev pub date_time_read : List ℕ → Option Moment
date_time_read text = option_and_then nothing_left (date_time_text.read text)
