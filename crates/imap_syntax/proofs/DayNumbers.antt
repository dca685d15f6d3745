-- Days of the calendar of `jiff` and their numbers.
use Rattle.std.proofs.Common.{◌≡◌, ◌∙◌, ap, subst, sym, refl, inl, rules, ℕ, ◌<◌, true, ℤ, pos, negsuc, ◌≤ℤ◌, unsigned_abs, to_z, of_z, FitsSigned, w8, w16, w32, w64, Result, Ok, Err, IfOk, Option, Some, MatchOption, arith}
use Rattle.std.specs.Int.{IsInRange}
use Rattle.std.proofs.lemmas.Int.{by_lt_z, to_z_pos, to_z-of_z}
use Rattle.std.specs.Result.{result_ok}
use Rattle.jiff_core.specs.declared.civil.date.Date.{Date}
use Rattle.jiff_core.specs.Calendar.{days_from_civil, days_in_month, IsDate, IsYear, IsEpochDay}
use Rattle.jiff_core.specs.Date.{epoch_day, IsYmd}
use Rattle.jiff_core.proofs.DateLemmas.{epoch_day-lt}
use Rattle.jiff_core.proofs.SignedLemmas.{signed_arith}
use Rattle.imap_syntax.specs.declared.month.Month.{Month}
use Rattle.imap_syntax.specs.Calendar.{month_number, day_exists}
use Rattle.imap_syntax.specs.Moments.{Day}
use Rattle.imap_syntax.specs.WrittenDates.{day_of}
use Rattle.imap_syntax.specs.DayNumbers.{max_day, IsNumbered}
use Rattle.imap_syntax.proofs.Calendar.{is_date, is_day, same_date, month_fits}
use Rattle.imap_syntax.proofs.WrittenDates.{year_below, day_below}

pub ymd_number : (d : Date) (year month day : ℕ) → IsYmd (pos year) (pos month) (pos day) d → epoch_day d ≡ days_from_civil (pos year) month day
ymd_number d year month day is =
    let same_month : d.month ≡ month = cc in
    let same_day : d.day ≡ day = cc in
    rw (is.0, same_month, same_day) refl

first_of_1970 : Date
first_of_1970 = record { year = pos 1970; month = 1; day = 1; year_in = search rules; month_in = search rules; day_in = search rules }

number_of_1970 : epoch_day first_of_1970 ≡ pos 0
unfolding first_of_1970 days_from_civil
number_of_1970 = omega (arith, signed_arith)

-- a day that isn't before 1970 has a year that isn't
year_from : (d : Date) (n : ℕ) → epoch_day d ≡ pos n → pos 1970 ≤ℤ d.year
unfolding first_of_1970
year_from d n e = by_lt_z d.year (pos 1970) (λ lt. absurd (omega (arith, signed_arith, epoch_day-lt d first_of_1970 (inl lt), number_of_1970, e))) (λ ge. ge)

year_is : (z : ℤ) → pos 1970 ≤ℤ z → z ≡ pos (unsigned_abs z)
year_is (pos n) h = refl
year_is (negsuc n) h = absurd (omega (arith, signed_arith))

date_of : (z : ℤ) (k day : ℕ) → IsYear z → IsInRange 1 12 k → IsInRange 1 (days_in_month z k) day → IsDate z (pos k) (pos day)
date_of z k day year month d = (year, (omega (arith, signed_arith, month.0), omega (arith, signed_arith, month.1)), (omega (arith, signed_arith, d.0), omega (arith, signed_arith, d.1)))

below_limit : (z : ℤ) (y : ℕ) → IsYear z → z ≡ pos y → y < 10000
below_limit z y within e = omega (arith, signed_arith, within.0, within.1, e)

pub civil_exists : (d : Date) (m : Month) (n : ℕ) → epoch_day d ≡ pos n → month_number m ≡ d.month → day_exists (unsigned_abs d.year) m d.day ≡ true
civil_exists d m n e same =
    let year = year_is d.year (year_from d n e) in
    let there : IsDate d.year (pos (month_number m)) (pos d.day) = subst (λ (k : ℕ). IsDate d.year (pos k) (pos d.day)) (sym same) (date_of d.year d.month d.day d.year_in d.month_in d.day_in) in
    is_day (unsigned_abs d.year) m d.day (below_limit d.year (unsigned_abs d.year) d.year_in year) (subst (λ (z : ℤ). IsDate z (pos (month_number m)) (pos d.day)) year there)

pub civil_number : (d : Date) (m : Month) (n : ℕ) → epoch_day d ≡ pos n → month_number m ≡ d.month → days_from_civil (pos (unsigned_abs d.year)) (month_number m) d.day ≡ pos n
civil_number d m n e same =
    let year = year_is d.year (year_from d n e) in
    ap (λ (z : ℤ). days_from_civil z (month_number m) d.day) (sym year) ∙ ap (λ (k : ℕ). days_from_civil d.year k d.day) same ∙ e

pub day_made : (d : Date) (m : Month) (n year : ℕ) (result : Option Day) → epoch_day d ≡ pos n → month_number m ≡ d.month → year ≡ unsigned_abs d.year → result ≡ day_of year m d.day → MatchOption result (max_day < n) (IsNumbered n)
day_made d m n year result e same y is =
    let exists = civil_exists d m n e same in
    let found : result ≡ Some (record { year = unsigned_abs d.year; month = m; day = d.day }) = is ∙ ap (λ (k : ℕ). day_of k m d.day) y ∙ rw exists refl in
    subst (λ (r : Option Day). MatchOption r (max_day < n) (IsNumbered n)) (sym found) (civil_number d m n e same)

-- ---- what the calendar is asked

pub year_fits : (year : ℕ) (m : Month) (day : ℕ) → day_exists year m day ≡ true → FitsSigned w16 (pos year)
year_fits year m day h = omega (arith, signed_arith, year_below year m day h)

pub day_fits : (year : ℕ) (m : Month) (day : ℕ) → day_exists year m day ≡ true → FitsSigned w8 (pos day)
day_fits year m day h = omega (arith, signed_arith, day_below year m day h)

year_asked : (year : ℕ) (m : Month) (day : ℕ) → day_exists year m day ≡ true → to_z w16 year ≡ pos year
year_asked year m day h = to_z_pos w16 year (omega (arith, year_below year m day h))

day_asked : (year : ℕ) (m : Month) (day : ℕ) → day_exists year m day ≡ true → to_z w8 day ≡ pos day
day_asked year m day h = to_z_pos w8 day (omega (arith, day_below year m day h))

month_asked : (m : Month) (number : ℕ) → number ≡ month_number m → to_z w8 number ≡ pos (month_number m)
month_asked m number e = ap (to_z w8) e ∙ to_z_pos w8 (month_number m) (month_fits m)

pub date_asked : (year : ℕ) (m : Month) (day number : ℕ) → day_exists year m day ≡ true → number ≡ month_number m → IsDate (to_z w16 year) (to_z w8 number) (to_z w8 day)
date_asked year m day number h e =
    same_date (pos year) (pos (month_number m)) (pos day) (to_z w16 year) (to_z w8 number) (to_z w8 day)
    (sym (year_asked year m day h)) (sym (month_asked m number e)) (sym (day_asked year m day h)) (is_date year m day (year_below year m day h) h)

pub number_asked : (d : Date) (year : ℕ) (m : Month) (day number : ℕ) → day_exists year m day ≡ true → number ≡ month_number m → IsYmd (to_z w16 year) (to_z w8 number) (to_z w8 day) d → epoch_day d ≡ days_from_civil (pos year) (month_number m) day
number_asked d year m day number h e is =
    ymd_number d year (month_number m) day (is.0 ∙ year_asked year m day h, is.1 ∙ month_asked m number e, is.2 ∙ day_asked year m day h)

-- ---- numbers of days fit the types of the code

pub year_kept : (d : Date) → to_z w16 (of_z w16 d.year) ≡ d.year
year_kept d = to_z-of_z w16 d.year (omega (arith, signed_arith, d.year_in))

pub number_kept : (z from : ℤ) → IsEpochDay z → from ≡ to_z w32 (of_z w32 z) → to_z w64 (of_z w64 from) ≡ z
number_kept z from within e =
    let same : from ≡ z = e ∙ to_z-of_z w32 z (omega (arith, signed_arith, within)) in
    ap (λ (y : ℤ). to_z w64 (of_z w64 y)) same ∙ to_z-of_z w64 z (omega (arith, signed_arith, within))

pub number_given : {E : Type 0} (r : Result Date E) (d : Date) (n : ℤ) → Some d ≡ result_ok r → IfOk r (λ day. epoch_day day ≡ n) → epoch_day d ≡ n
number_given (Ok day) d n e h = let same : d ≡ day = cc in ap epoch_day same ∙ h
number_given (Err error) d n e h = absurd cc
