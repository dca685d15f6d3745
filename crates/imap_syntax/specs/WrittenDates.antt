-- How dates are written (RFC 9051, section 9).
use Rattle.std.specs.Prelude.{ℕ, ◌+◌, ◌/◌, ◌%◌, ◌&&◌, Bool, true, false, nat_lt, List, [], ◌∷◌}
use Rattle.std.specs.Prelude.{◌++◌, if◌then◌else◌, Option, Some, None}
use Rattle.imap_syntax.specs.Calendar.{month_name, day_exists}
use Rattle.imap_syntax.specs.Moments.{Day, Offset, Moment}
use Rattle.imap_syntax.specs.Writing.{Writing}
use Rattle.imap_syntax.specs.declared.month.Month.{Month}

abbrev pub digit : ℕ → ℕ
digit n = 48 + n % 10

-- `2DIGIT`
abbrev pub two_digits : ℕ → List ℕ
two_digits n = digit (n / 10) ∷ digit n ∷ []

-- `4DIGIT`
abbrev pub four_digits : ℕ → List ℕ
four_digits n = two_digits (n / 100) ++ two_digits n

-- `date-day`, without a leading zero
abbrev pub day_text : ℕ → List ℕ
day_text n = if nat_lt n 10 then digit n ∷ [] else two_digits n

abbrev pub month_year_text : Day → List ℕ
month_year_text d = 45 ∷ (month_name d.month ++ (45 ∷ four_digits d.year))

abbrev pub date_fits : Day → Bool
date_fits d = day_exists d.year d.month d.day

-- `date-text`
abbrev pub date : Writing Day
date = record { fits = date_fits; text = λ d. day_text d.day ++ month_year_text d }

abbrev pub day_of : (year : ℕ) → Month → (day : ℕ) → Option Day
day_of year month day =
    if day_exists year month day then Some (record { year = year; month = month; day = day }) else None

abbrev pub zone_fits : Offset → Bool
zone_fits z = nat_lt z.hours 24 && nat_lt z.minutes 60

abbrev pub offset_of : (west : Bool) → (hours minutes : ℕ) → Option Offset
offset_of west hours minutes =
    if nat_lt hours 24 && nat_lt minutes 60
    then Some (record { west = west; hours = hours; minutes = minutes })
    else None

abbrev pub sign : (west : Bool) → ℕ
sign true = 45
sign false = 43

abbrev pub zone_text : Offset → List ℕ
zone_text z = sign z.west ∷ (two_digits z.hours ++ two_digits z.minutes)

abbrev pub clock_text : Moment → List ℕ
clock_text t = two_digits t.hour ++ (58 ∷ (two_digits t.minute ++ (58 ∷ two_digits t.second)))

abbrev pub clock_fits : (hour minute second : ℕ) → Bool
clock_fits hour minute second = nat_lt hour 24 && nat_lt minute 60 && nat_lt second 60

abbrev pub moment_of : Day → (hour minute second : ℕ) → Offset → Option Moment
moment_of date hour minute second zone =
    if clock_fits hour minute second
    then Some (record { date = date; hour = hour; minute = minute; second = second; zone = zone })
    else None

abbrev pub date_time_fits : Moment → Bool
date_time_fits t =
    date_fits t.date && (clock_fits t.hour t.minute t.second && zone_fits t.zone)

-- `date-day-fixed`: a day below 10 has a space before it
abbrev pub fixed_day_text : ℕ → List ℕ
fixed_day_text n = if nat_lt n 10 then 32 ∷ digit n ∷ [] else two_digits n

abbrev pub fixed_date_text : Day → List ℕ
fixed_date_text d = fixed_day_text d.day ++ month_year_text d

-- `date-time` without its quotes
abbrev pub date_time_text : Moment → List ℕ
date_time_text t = fixed_date_text t.date ++ (32 ∷ (clock_text t ++ (32 ∷ zone_text t.zone)))

-- `date-time` after its first quote
abbrev pub date_time_end : Writing Moment
date_time_end = record { fits = date_time_fits; text = λ t. date_time_text t ++ 34 ∷ [] }

-- `date-time`
abbrev pub date_time : Writing Moment
date_time = record { fits = date_time_fits; text = λ t. 34 ∷ date_time_end.text t }
