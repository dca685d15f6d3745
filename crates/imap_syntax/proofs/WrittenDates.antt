-- Dates are written as they are spelt.
use Rattle.std.proofs.Common.{◌≡◌, ℕ, ◌+◌, ◌*◌, ◌/◌, ◌%◌, ◌<◌, Bool, true, false, cond, not, ◌&&◌, eqb, ltb, List, [], ◌∷◌, ◌++◌, refl, sym, ap, ◌∙◌, append_assoc, append-nil, arith}
use Rattle.std.specs.Char.{is_ascii_digit}
use Rattle.std.proofs.Math.Nat.{div-add-mod, mod-eq_of_lt, div-lt_iff_lt-mul, div-div-eq-div-mul}
use Rattle.std.proofs.lemmas.Bool.Decides.{nat_tests}
use Rattle.imap_syntax.specs.declared.month.Month.{Month}
use Rattle.imap_syntax.specs.declared.month.Month.TheVariants as month
use Rattle.imap_syntax.specs.declared.month.TheConstants.{MONTHS}
use Rattle.imap_syntax.specs.Rule as rule
use Rattle.imap_syntax.specs.Rule.{Rule, give, when, ◌>>=◌}
use Rattle.imap_syntax.specs.Lexical.{decimal, is_word_char}
use Rattle.imap_syntax.specs.Dates as dates
use Rattle.imap_syntax.specs.Calendar as calendar
use Rattle.imap_syntax.specs.Calendar.{month_name, day_exists, days_in}
use Rattle.imap_syntax.specs.Moments.{Day, Offset, Moment}
use Rattle.imap_syntax.specs.WrittenDates.{digit, two_digits, four_digits, day_text, month_year_text, fixed_day_text, date_fits as day_fits, date, clock_fits, zone_fits, sign, zone_text, date_time_fits, date_time_text, date_time_end}
use Rattle.imap_syntax.proofs.Writing.{Writes, both_true, word_writes}

-- ---- digits

two_plain : (q r n : ℕ) → 10 * q + r ≡ n → decimal ((48 + q) ∷ (48 + r) ∷ []) ≡ n
two_plain q r n e = omega (arith, e)

four_plain : (a b c d h m n : ℕ) → 10 * a + b ≡ h → 10 * c + d ≡ m → 100 * h + m ≡ n → decimal ((48 + a) ∷ (48 + b) ∷ (48 + c) ∷ (48 + d) ∷ []) ≡ n
four_plain a b c d h m n e f g = omega (arith, e, f, g)

tenth_below : (n limit : ℕ) → n < limit * 10 → n / 10 < limit
tenth_below n limit lt = (div-lt_iff_lt-mul {x = n} (omega arith)).1 lt

two_sum : (n : ℕ) → n < 100 → 10 * (n / 10 % 10) + n % 10 ≡ n
two_sum n lt = rw (mod-eq_of_lt (tenth_below n 10 lt)) (div-add-mod n 10)

two_value : (n : ℕ) → n < 100 → decimal (two_digits n) ≡ n
two_value n lt = two_plain (n / 10 % 10) (n % 10) n (two_sum n lt)

hundreds : (n q r h c : ℕ) → 10 * q + r ≡ n → 10 * h + c ≡ q → 100 * h + (10 * c + r) ≡ n
hundreds n q r h c e f = omega (arith, e, f)

two_last : (n : ℕ) → 100 * (n / 100) + (10 * (n / 10 % 10) + n % 10) ≡ n
two_last n =
    let tenths : n / 10 / 10 ≡ n / 100 = div-div-eq-div-mul n 10 10 in
    let above : 10 * (n / 100) + n / 10 % 10 ≡ n / 10 = rw (← tenths) (div-add-mod (n / 10) 10) in
    hundreds n (n / 10) (n % 10) (n / 100) (n / 10 % 10) (div-add-mod n 10) above

hundredth_below : (n : ℕ) → n < 10000 → n / 100 < 100
hundredth_below n lt = (div-lt_iff_lt-mul {x = n} (omega arith)).1 lt

four_value : (n : ℕ) → n < 10000 → decimal (four_digits n) ≡ n
four_value n lt = four_plain (n / 100 / 10 % 10) (n / 100 % 10) (n / 10 % 10) (n % 10) (n / 100) (10 * (n / 10 % 10) + n % 10) n (two_sum (n / 100) (hundredth_below n lt)) refl (two_last n)

both_value : (a b : ℕ) → a < 100 → b < 100 → decimal (two_digits a ++ two_digits b) ≡ 100 * a + b
both_value a b la lb = four_plain (a / 10 % 10) (a % 10) (b / 10 % 10) (b % 10) a b (100 * a + b) (two_sum a la) (two_sum b lb) refl

remainder_is_digit : (r : ℕ) → r < 10 → is_ascii_digit (48 + r) ≡ true
remainder_is_digit r lt = grind (arith, nat_tests)

pub is_digit : (n : ℕ) → is_ascii_digit (digit n) ≡ true
is_digit n = remainder_is_digit (n % 10) (omega arith)

two_spelt : (n : ℕ) → (rule.some_of is_ascii_digit).spells (two_digits n) (two_digits n)
two_spelt n = (refl, (is_digit (n / 10), (is_digit n, tt)), λ e. absurd cc)

four_spelt : (a b : ℕ) → (rule.some_of is_ascii_digit).spells (two_digits a ++ two_digits b) (two_digits a ++ two_digits b)
four_spelt a b = (refl, (is_digit (a / 10), (is_digit a, (is_digit (b / 10), (is_digit b, tt)))), λ e. absurd cc)

short_day_made : (n : ℕ) → n < 100 → (dates.digits_of 1 2).spells n (two_digits n)
short_day_made n lt = (two_digits n, two_digits n, [], two_spelt n, (refl, sym (two_value n lt), refl), refl)

two_made : (n : ℕ) → n < 100 → (dates.digits_of 2 2).spells n (two_digits n)
two_made n lt = (two_digits n, two_digits n, [], two_spelt n, (refl, sym (two_value n lt), refl), refl)

four_made : (n : ℕ) → n < 10000 → (dates.digits_of 4 4).spells n (four_digits n)
four_made n lt = (four_digits n, four_digits n, [], four_spelt (n / 100) n, (refl, sym (four_value n lt), refl), refl)

pair_made : (a b : ℕ) → a < 100 → b < 100 → (dates.digits_of 4 4).spells (100 * a + b) (two_digits a ++ two_digits b)
pair_made a b la lb = (two_digits a ++ two_digits b, two_digits a ++ two_digits b, [], four_spelt a b, (refl, sym (both_value a b la lb), refl), refl)

-- ---- days

below_limit : (n limit : ℕ) (b c : Bool) → (ltb n limit && b && c) ≡ true → n < limit
below_limit n limit b c h = let q = both_true (ltb n limit && b) c h in let r = both_true (ltb n limit) b q.0 in grind (arith, nat_tests)

pub year_below : (year : ℕ) (m : Month) (day : ℕ) → day_exists year m day ≡ true → year < 10000
unfolding day_exists
year_below year m day h = below_limit year 10000 (not (eqb day 0)) (not (ltb (days_in year m) day)) h

few_days : (year : ℕ) (m : Month) → days_in year m < 100
few_days year month.Jan = omega arith
few_days year month.Feb = few (calendar.is_leap_year year)
  where
    few : (b : Bool) → cond b 29 28 < 100
    few true = omega arith
    few false = omega arith
few_days year month.Mar = omega arith
few_days year month.Apr = omega arith
few_days year month.May = omega arith
few_days year month.Jun = omega arith
few_days year month.Jul = omega arith
few_days year month.Aug = omega arith
few_days year month.Sep = omega arith
few_days year month.Oct = omega arith
few_days year month.Nov = omega arith
few_days year month.Dec = omega arith

within : (day most : ℕ) → not (ltb most day) ≡ true → most < 100 → day < 100
within day most h lt = grind (arith, nat_tests)

pub day_below : (year : ℕ) (m : Month) (day : ℕ) → day_exists year m day ≡ true → day < 100
unfolding day_exists
day_below year m day h = within day (days_in year m) (both_true _ _ h).1 (few_days year m)

-- ---- dates

behind_made : (d : Day) → day_fits d ≡ true → (dates.date_behind_day d.day).spells d (month_year_text d)
behind_made d h =
    let m = d.month in
    let year : (dates.digits_of 4 4 >>= λ year. when (day_exists year m d.day) (record { year = year; month = m; day = d.day })).spells d (four_digits d.year) =
    (d.year, four_digits d.year, [], four_made d.year (year_below d.year m d.day h), (h, refl, refl), refl) in (
      tt,
      45 ∷ [],
      month_name m ++ (45 ∷ four_digits d.year),
      refl,
      (
        m,
        month_name m,
        45 ∷ four_digits d.year,
        (word_writes is_word_char month_name MONTHS).made m refl,
        (tt, 45 ∷ [], four_digits d.year, refl, year, refl),
        refl,
      ),
      refl,
    )

one_value : (n : ℕ) → n < 10 → decimal (digit n ∷ []) ≡ n
one_value n lt = rw (mod-eq_of_lt lt) (omega arith)

day_made : (n : ℕ) → n < 100 → (few : Bool) → ltb n 10 ≡ few → (dates.digits_of 1 2).spells n (cond few (digit n ∷ []) (two_digits n))
day_made n lt true e =
    let small : n < 10 = grind (arith, nat_tests) in
    (digit n ∷ [], digit n ∷ [], [], (refl, (is_digit n, tt), λ e. absurd cc), (refl, sym (one_value n small), refl), refl)
day_made n lt false e = short_day_made n lt

date_text_made : (d : Day) → day_fits d ≡ true → dates.date_text.spells d (date.text d)
date_text_made d h = (d.day, day_text d.day, month_year_text d, day_made d.day (day_below d.year d.month d.day h) (ltb d.day 10) refl, behind_made d h, refl)

date_behind_fits : (day : ℕ) (d : Day) (text : List ℕ) → (dates.date_behind_day day).spells d text → day_fits d ≡ true
date_behind_fits day d text h =
    let month = h.4 in
    let year = month.4.4 in
    rw (year.4.1) year.4.0

date_fits : (quoted : Bool) (d : Day) (text : List ℕ) → (dates.date_behind quoted).spells d text → day_fits d ≡ true
date_fits false d text h = date_behind_fits h.0 d h.2 h.4
date_fits true d text h = rw (h.4.4.0) (date_behind_fits h.3.0 h.0 h.3.2 h.3.4)

-- `date` of SEARCH's keys is written without quotes
pub date_writes : Writes dates.date date
date_writes = record {
  made = λ d h. (false, [], date.text d, refl, date_text_made d h, refl);
  fits = λ d text h. date_fits h.0 d h.2 h.4;
}

-- ---- moments

below_made : (limit n : ℕ) → limit < 101 → ltb n limit ≡ true → (dates.below limit).spells n (two_digits n)
below_made limit n few h = (n, two_digits n, [], two_made n (grind (arith, nat_tests)), (h, refl, refl), refl)

below_fits : (limit n : ℕ) (text : List ℕ) → (dates.below limit).spells n text → ltb n limit ≡ true
below_fits limit n text h = rw (h.4.1) h.4.0

hundreds_apart : (a b n : ℕ) → 100 * a + b ≡ n → b < 100 → (n / 100 ≡ a) × (n % 100 ≡ b)
hundreds_apart a b n e lt = (omega arith, omega arith)

same_zone : (z : Offset) (hours minutes : ℕ) → hours ≡ z.hours → minutes ≡ z.minutes → z ≡ record { west = z.west; hours = hours; minutes = minutes }
same_zone z hours minutes e f =
    let with_hours : ℕ → Offset = λ n. record { west = z.west; hours = n; minutes = z.minutes } in
    let with_minutes : ℕ → Offset = λ n. record { west = z.west; hours = hours; minutes = n } in
    ap with_hours (sym e) ∙ ap with_minutes (sym f)

sign_made : (west : Bool) → (rule.flag 45 >>= λ minus. dates.west_behind minus).spells west (sign west ∷ [])
sign_made true = (true, 45 ∷ [], [], refl, (refl, refl), refl)
sign_made false = (false, [], 43 ∷ [], refl, (tt, 43 ∷ [], [], refl, (refl, refl), refl), refl)

-- the digits of a zone behind its sign
abbrev behind_sign : (west : Bool) → Rule Offset
behind_sign west = dates.digits_of 4 4 >>= λ n. when (ltb (n / 100) 24 && ltb (n % 100) 60) (record { west = west; hours = n / 100; minutes = n % 100 })

zone_made : (z : Offset) → zone_fits z ≡ true → dates.zone.spells z (sign z.west ∷ two_digits z.hours ++ two_digits z.minutes)
zone_made z h =
    let q = both_true (ltb z.hours 24) (ltb z.minutes 60) h in
    let hours : z.hours < 100 = grind (arith, nat_tests) in
    let minutes : z.minutes < 100 = grind (arith, nat_tests) in
    let number : ℕ = 100 * z.hours + z.minutes in
    let parts = hundreds_apart z.hours z.minutes number refl minutes in
    let digits = two_digits z.hours ++ two_digits z.minutes in
    let test : (ltb (number / 100) 24 && ltb (number % 100) 60) ≡ true = rw (parts.0, parts.1) h in
    let same : z ≡ record { west = z.west; hours = number / 100; minutes = number % 100 } = same_zone z (number / 100) (number % 100) parts.0 parts.1 in
    let behind : (behind_sign z.west).spells z digits =
    (number, digits, [], pair_made z.hours z.minutes hours minutes, (test, same, refl), refl) in
    by_sign z.west z digits behind
  where
    by_sign : (west : Bool) (z : Offset) (digits : List ℕ) → (behind_sign west).spells z digits → dates.zone.spells z (sign west ∷ digits)
    by_sign true z digits h = (true, 45 ∷ [], digits, refl, (true, [], digits, (refl, refl), h, refl), refl)
    by_sign false z digits h = (false, [], 43 ∷ digits, refl, (false, 43 ∷ [], digits, (tt, 43 ∷ [], [], refl, (refl, refl), refl), h, refl), refl)

zone_fits_all : (z : Offset) (text : List ℕ) → dates.zone.spells z text → zone_fits z ≡ true
zone_fits_all z text h = let number = h.4.4 in rw (number.4.1) number.4.0

day_fixed_made : (n : ℕ) → n < 100 → (few : Bool) → ltb n 10 ≡ few → dates.day_fixed.spells n (cond few (32 ∷ digit n ∷ []) (two_digits n))
day_fixed_made n lt true e =
    let small : n < 10 = grind (arith, nat_tests) in
    (true, 32 ∷ [], digit n ∷ [], refl, (digit n ∷ [], digit n ∷ [], [], (refl, (is_digit n, tt), λ e. absurd cc), (refl, sym (one_value n small), refl), refl), refl)
day_fixed_made n lt false e = (false, [], two_digits n, refl, two_made n lt, refl)

-- what stands behind the date
abbrev second_text : Moment → List ℕ
second_text t = 58 ∷ (two_digits t.second ++ (32 ∷ zone_text t.zone))

abbrev time_text : Moment → List ℕ
time_text t = 32 ∷ (two_digits t.hour ++ (58 ∷ (two_digits t.minute ++ second_text t)))

pub date_time_text_made : (t : Moment) → date_time_fits t ≡ true → dates.date_time_text.spells t (date_time_text t)
date_time_text_made t h =
    let q = both_true (day_fits t.date) (clock_fits t.hour t.minute t.second && zone_fits t.zone) h in
    let r = both_true (clock_fits t.hour t.minute t.second) (zone_fits t.zone) q.1 in
    let s = both_true (ltb t.hour 24 && ltb t.minute 60) (ltb t.second 60) r.0 in
    let u = both_true (ltb t.hour 24) (ltb t.minute 60) s.0 in
    let zone = zone_text t.zone in (
      t.date.day,
      fixed_day_text t.date.day,
      month_year_text t.date ++ time_text t,
      day_fixed_made t.date.day (day_below t.date.year t.date.month t.date.day q.0) (ltb t.date.day 10) refl,
      (
        t.date,
        month_year_text t.date,
        time_text t,
        behind_made t.date q.0,
        (
          tt,
          32 ∷ [],
          two_digits t.hour ++ (58 ∷ (two_digits t.minute ++ second_text t)),
          refl,
          (
            t.hour,
            two_digits t.hour,
            58 ∷ (two_digits t.minute ++ second_text t),
            below_made 24 t.hour (omega arith) u.0,
            (
              tt,
              58 ∷ [],
              two_digits t.minute ++ second_text t,
              refl,
              (
                t.minute,
                two_digits t.minute,
                second_text t,
                below_made 60 t.minute (omega arith) u.1,
                (
                  tt,
                  58 ∷ [],
                  two_digits t.second ++ (32 ∷ zone),
                  refl,
                  (
                    t.second,
                    two_digits t.second,
                    32 ∷ zone,
                    below_made 60 t.second (omega arith) s.1,
                    (
                      tt,
                      32 ∷ [],
                      zone,
                      refl,
                      (t.zone, zone, [], zone_made t.zone r.1, (refl, refl), sym (append-nil zone)),
                      refl,
                    ),
                    refl,
                  ),
                  refl,
                ),
                refl,
              ),
              refl,
            ),
            refl,
          ),
          refl,
        ),
        refl,
      ),
      append_assoc (fixed_day_text t.date.day) (month_year_text t.date) (time_text t),
    )

date_time_made : (t : Moment) → date_time_end.fits t ≡ true → dates.date_time_end.spells t (date_time_end.text t)
date_time_made t h = (t, date_time_text t, 34 ∷ [], date_time_text_made t h, (tt, 34 ∷ [], [], refl, (refl, refl), refl), refl)

text_fits : (t : Moment) (text : List ℕ) → dates.date_time_text.spells t text → date_time_fits t ≡ true
text_fits t text h =
    let date = h.4 in
    let hour = date.4.4 in
    let minute = hour.4.4 in
    let second = minute.4.4 in
    let zone = second.4.4 in
    rw (zone.4.0) (rw (date_behind_fits h.0 date.0 date.1 date.3, below_fits 24 hour.0 hour.1 hour.3, below_fits 60 minute.0 minute.1 minute.3, below_fits 60 second.0 second.1 second.3) (zone_fits_all zone.0 zone.1 zone.3))

end_fits : (t : Moment) (text : List ℕ) → dates.date_time_end.spells t text → date_time_end.fits t ≡ true
end_fits t text h = rw (h.4.4.0) (text_fits h.0 h.1 h.3)

pub date_time_writes : Writes dates.date_time_end date_time_end
date_time_writes = record { made = date_time_made; fits = end_fits }
