-- The days that a month has are those of the calendar of `jiff`.
use Rattle.std.proofs.Common.{◌≡◌, ℕ, ◌<◌, ◌≤◌, ◌^◌, Bool, true, false, cond, ℤ, pos, refl, sym, subst, ◌∙◌, arith}
use Rattle.std.proofs.lemmas.Bool.Decides.{nat_tests}
use Rattle.jiff.specs.Words.{IsDate, days_in_month}
use Rattle.jiff.proofs.SpanFacts.{signed_arith}
use Rattle.imap_syntax.specs.declared.month.Month.{Month}
use Rattle.imap_syntax.specs.declared.month.Month.TheVariants as month
use Rattle.imap_syntax.specs.Calendar.{is_leap_year, month_number, days_in, day_exists}

same_days : (year : ℕ) (m : Month) → days_in_month (pos year) (month_number m) ≡ days_in year m
same_days year month.Jan = refl
same_days year month.Feb = refl
same_days year _ = refl

february : (leap : Bool) → cond leap 29 28 ≤ 31
february true = omega arith
february false = omega arith

few_days : (year : ℕ) (m : Month) → days_in year m ≤ 31
few_days year month.Jan = omega arith
few_days year month.Feb = february (is_leap_year year)
few_days year _ = omega arith

pub month_within : (m : Month) → (1 ≤ month_number m) × (month_number m ≤ 12)
month_within month.Jan = (omega arith, omega arith)
month_within _ = (omega arith, omega arith)

pub no_day : (year : ℕ) (m : Month) (day : ℕ) → 32 ≤ day → false ≡ day_exists year m day
unfolding day_exists
no_day year m day h = let few = few_days year m in grind (arith, nat_tests)

pub no_year : (year : ℕ) (m : Month) (day : ℕ) → 10000 ≤ year → false ≡ day_exists year m day
unfolding day_exists
no_year year m day h = grind (arith, nat_tests)

pub is_date : (year : ℕ) (m : Month) (day : ℕ) → year < 10000 → day_exists year m day ≡ true → IsDate (pos year) (pos (month_number m)) (pos day)
unfolding day_exists
is_date year m day lt h =
    let w = month_within m in
    let same = same_days year m in
    let bounds : (1 ≤ day) × (day ≤ days_in year m) = grind (arith, nat_tests) in
    ((omega (arith, signed_arith), omega (arith, signed_arith)), (omega (arith, signed_arith), omega (arith, signed_arith)), (omega (arith, signed_arith), rw same (omega (arith, signed_arith))))

pub is_day : (year : ℕ) (m : Month) (day : ℕ) → year < 10000 → IsDate (pos year) (pos (month_number m)) (pos day) → day_exists year m day ≡ true
unfolding day_exists
is_day year m day lt h =
    let least : 1 ≤ day = omega (arith, signed_arith, h.2.0) in
    let most : day ≤ days_in_month (pos year) (month_number m) = omega (arith, signed_arith, h.2.1) in
    let few : day ≤ days_in year m = rw (← same_days year m) most in
    grind (arith, nat_tests)

pub agrees : (year : ℕ) (m : Month) (day : ℕ) (ok : Bool) → year < 10000 → (ok ≡ true → IsDate (pos year) (pos (month_number m)) (pos day)) → (IsDate (pos year) (pos (month_number m)) (pos day) → ok ≡ true) → ok ≡ day_exists year m day
agrees year m day true lt to from = sym (is_day year m day lt (to refl))
agrees year m day false lt to from = by (day_exists year m day) refl
  where
    by : (v : Bool) → day_exists year m day ≡ v → false ≡ day_exists year m day
    by true e = from (is_date year m day lt e) ∙ sym e
    by false e = sym e

pub same_date : (y z d x w c : ℤ) → y ≡ x → z ≡ w → d ≡ c → IsDate y z d → IsDate x w c
same_date y z d x w c e f g h = subst (λ (u : ℤ). IsDate x w u) g (subst (λ (u : ℤ). IsDate x u d) f (subst (λ (u : ℤ). IsDate u z d) e h))

pub agrees_as : (year : ℕ) (m : Month) (day : ℕ) (ok : Bool) (y z d : ℤ) → year < 10000 → y ≡ pos year → z ≡ pos (month_number m) → d ≡ pos day → (ok ≡ true → IsDate y z d) → (IsDate y z d → ok ≡ true) → ok ≡ day_exists year m day
agrees_as year m day ok y z d lt e f g to from =
    agrees year m day ok lt (λ h. same_date y z d (pos year) (pos (month_number m)) (pos day) e f g (to h)) (λ h. from (same_date (pos year) (pos (month_number m)) (pos day) y z d (sym e) (sym f) (sym g) h))

-- twelve fits one octet with a sign
pub month_fits : (m : Month) → month_number m < 2 ^ 7
month_fits m = omega (arith, month_within m)
