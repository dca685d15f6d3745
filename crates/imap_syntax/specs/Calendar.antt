-- The days of the calendar.
use Rattle.std.specs.Prelude.{ℕ, ◌%◌, Bool, cond, ◌==◌, ◌&&◌, ◌||◌, not, nat_lt, List, codes}
use Rattle.imap_syntax.specs.declared.month.Month.{Month}
use Rattle.imap_syntax.specs.declared.month.Month.TheVariants as month

abbrev pub month_name : Month → List ℕ
month_name month.Jan = codes "Jan"
month_name month.Feb = codes "Feb"
month_name month.Mar = codes "Mar"
month_name month.Apr = codes "Apr"
month_name month.May = codes "May"
month_name month.Jun = codes "Jun"
month_name month.Jul = codes "Jul"
month_name month.Aug = codes "Aug"
month_name month.Sep = codes "Sep"
month_name month.Oct = codes "Oct"
month_name month.Nov = codes "Nov"
month_name month.Dec = codes "Dec"

abbrev pub month_number : Month → ℕ
month_number month.Jan = 1
month_number month.Feb = 2
month_number month.Mar = 3
month_number month.Apr = 4
month_number month.May = 5
month_number month.Jun = 6
month_number month.Jul = 7
month_number month.Aug = 8
month_number month.Sep = 9
month_number month.Oct = 10
month_number month.Nov = 11
month_number month.Dec = 12

abbrev pub is_leap_year : ℕ → Bool
is_leap_year year = year % 4 == 0 && (not (year % 100 == 0) || year % 400 == 0)

abbrev pub days_in : (year : ℕ) → Month → ℕ
days_in year month.Feb = cond (is_leap_year year) 29 28
days_in year month.Apr = 30
days_in year month.Jun = 30
days_in year month.Sep = 30
days_in year month.Nov = 30
days_in year _ = 31

-- the day is one of the month, in a year of four digits
unfoldable pub day_exists : (year : ℕ) → Month → (day : ℕ) → Bool
day_exists year month day = nat_lt year 10000 && not (day == 0) && not (nat_lt (days_in year month) day)
