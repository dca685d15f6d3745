-- Days are ordered as their years, months and days of the month.
use Rattle.std.proofs.Common.{◌≡◌, ℕ, ◌<◌, ◌≤◌, ◌⊎◌, Bool, true, false, inl, inr, refl, suc, ℤ, pos, ◌<ℤ◌, ◌≤ℤ◌, int_lt, nat_lt, arith}
use Rattle.std.proofs.lemmas.Bool.Decides.{leb_tells}
use Rattle.jiff_core.specs.declared.civil.date.Date.{Date}
use Rattle.jiff_core.proofs.CalendarLemmas.{days_in_month_bounds}
use Rattle.jiff_core.proofs.DateLemmas.{IsEarlier, cases_date, epoch_day-lt}
use Rattle.jiff_core.proofs.SignedLemmas.{signed_arith}
use Rattle.imap_syntax.specs.declared.month.Month.{Month}
use Rattle.imap_syntax.specs.Calendar.{month_number, day_exists}
use Rattle.imap_syntax.specs.DayNumbers as numbers
use Rattle.imap_syntax.specs.DayNumbers.{day_number}
use Rattle.imap_syntax.specs.Moments.{Day}
use Rattle.imap_syntax.proofs.Calendar.{is_date, month_within}
use Rattle.imap_syntax.proofs.WrittenDates.{year_below}

abbrev order_of : Day → ℕ
order_of d = numbers.order_of d.year d.month d.day

abbrev pub Exists : Day → Type 0
Exists d = day_exists d.year d.month d.day ≡ true

civil : (d : Day) → Exists d → Date
civil d h =
    let there = is_date d.year d.month d.day (year_below d.year d.month d.day h) h in
    record {
      year = pos d.year;
      month = month_number d.month;
      day = d.day;
      year_in = there.0;
      month_in = month_within d.month;
      day_in = (omega (arith, signed_arith, there.2.0), omega (arith, signed_arith, there.2.1));
    }

few_days : (d : Day) → Exists d → d.day ≤ 31
unfolding civil
few_days d h = let c = civil d h in omega (arith, c.day_in.1, days_in_month_bounds c.year c.month)

earlier_is_less : (a b : Day) (h : Exists a) (k : Exists b) → IsEarlier (civil a h) (civil b k) → order_of a < order_of b
unfolding civil
earlier_is_less a b h k (inl year) =
    omega (arith, signed_arith, year, month_within a.month, month_within b.month, few_days a h)
earlier_is_less a b h k (inr (year, inl month)) =
    omega (arith, signed_arith, year, month, few_days a h)
earlier_is_less a b h k (inr (year, inr day)) =
    omega (arith, signed_arith, year, day.0, day.1)

same_is_same : (a b : Day) → pos a.year ≡ pos b.year → month_number a.month ≡ month_number b.month → a.day ≡ b.day → order_of a ≡ order_of b
same_is_same a b year month day = omega (arith, signed_arith, year, month, day)

less_is_earlier : (a b : Day) (h : Exists a) (k : Exists b) → order_of a < order_of b → day_number a <ℤ day_number b
unfolding civil
less_is_earlier a b h k less = elim (cases_date (civil a h) (civil b k)) [
  | inl lt ↦ epoch_day-lt (civil a h) (civil b k) lt
  | inr (inl gt) ↦ absurd (omega (arith, less, earlier_is_less b a k h gt))
  | inr (inr same) ↦ absurd (omega (arith, less, same_is_same a b same.0 same.1 same.2))
]

least_is_not_later : (a b : Day) (h : Exists a) (k : Exists b) → order_of b ≤ order_of a → day_number b ≤ℤ day_number a
unfolding civil
least_is_not_later a b h k least = elim (cases_date (civil a h) (civil b k)) [
  | inl lt ↦ absurd (omega (arith, least, earlier_is_less a b h k lt))
  | inr (inl gt) ↦ omega (arith, signed_arith, epoch_day-lt (civil b k) (civil a h) gt)
  | inr (inr same) ↦ rw (same.0, same.1, same.2) (omega (arith, signed_arith))
]

tests_agree : (x y : ℕ) (a b : ℤ) → (x < y → a <ℤ b) → (y ≤ x → b ≤ℤ a) → nat_lt x y ≡ int_lt a b
tests_agree x y a b less least = by (int_lt a b) refl (leb_tells (suc x) y)
  where
    by : (t : Bool) → int_lt a b ≡ t → ((nat_lt x y ≡ true) × (suc x ≤ y)) ⊎ ((nat_lt x y ≡ false) × (y < suc x)) → nat_lt x y ≡ t
    by true e (inl (e', h)) = e'
    by true e (inr (e', h)) = let late = least (omega (arith, h)) in absurd (omega (arith, signed_arith, e, late))
    by false e (inl (e', h)) = let early = less (omega (arith, h)) in absurd (omega (arith, signed_arith, e, early))
    by false e (inr (e', h)) = e'

order_agrees : (a b : Day) → Exists a → Exists b → nat_lt (order_of a) (order_of b) ≡ int_lt (day_number a) (day_number b)
order_agrees a b h k = tests_agree (order_of a) (order_of b) (day_number a) (day_number b) (less_is_earlier a b h k) (least_is_not_later a b h k)

abbrev pub day_with : (year : ℕ) → Month → (day : ℕ) → Day
day_with year month day = record { year = year; month = month; day = day }

module _ (year year' : ℕ) (month month' : Month) (day day' : ℕ) where
  pub parts_agree : (a b : Day) → day_with year month day ≡ a → day_with year' month' day' ≡ b → day_exists year month day ≡ true → day_exists year' month' day' ≡ true → nat_lt (numbers.order_of year month day) (numbers.order_of year' month' day') ≡ int_lt (day_number a) (day_number b)
  parts_agree a b e f h k = rw (← e, ← f) (order_agrees (day_with year month day) (day_with year' month' day') h k)
