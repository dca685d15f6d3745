-- A number is in a set exactly if the last range that begins with it or before it reaches it.
use Rattle.std.proofs.Common.{◌≡◌, ◌∙◌, ℕ, zero, suc, ◌+◌, ◌<◌, ◌≤◌, max, leb, Bool, true, false, ◌&&◌, ◌||◌, cond, List, [], ◌∷◌, map, length, get_or, refl, sym, ap, ap₂, arith, inl, inr}
use Rattle.std.specs.List.Sorted.{IsNonDecreasingBy, IsPermutation}
use Rattle.std.proofs.lemmas.Bool.{cases_lt}
use Rattle.std.proofs.lemmas.Bool.Decides.{nat_tests}
use Rattle.std.proofs.lemmas.List.Sorted.{list_any-IsPermutation}
use Rattle.imap_syntax.specs.declared.set.SeqRange.{SeqRange}
use Rattle.imap_targets.specs.MessageNumbers.{end_of, in_set, is_between}
use Rattle.imap_search.specs.declared.ranges.NumberRange.{NumberRange}
use Rattle.imap_search.specs.Ranges.{has, in_ranges, AreRising, IsCount, between, range_of, up_to, reaching}

-- ---- both ends rise

length-reaching : (h : ℕ) (rs : List NumberRange) → length (reaching h rs) ≡ length rs
length-reaching h [] = refl
length-reaching h (r ∷ rs) = ap suc (length-reaching (max r.high h) rs)

low-reaching : (h : ℕ) (rs : List NumberRange) (i : ℕ) (d : NumberRange) → i < length rs → (get_or (reaching h rs) i d).low ≡ (get_or rs i d).low
low-reaching h [] i d lt = absurd (omega (arith, lt))
low-reaching h (r ∷ rs) zero d lt = refl
low-reaching h (r ∷ rs) (suc i) d lt = low-reaching (max r.high h) rs i d (omega (arith, lt))

least : (h : ℕ) (rs : List NumberRange) (i : ℕ) (d : NumberRange) → i < length rs → h ≤ (get_or (reaching h rs) i d).high
least h [] i d lt = absurd (omega (arith, lt))
least h (r ∷ rs) zero d lt = omega arith
least h (r ∷ rs) (suc i) d lt = omega (arith, least (max r.high h) rs i d (omega (arith, lt)))

rising : (h : ℕ) (rs : List NumberRange) (i j : ℕ) (d : NumberRange) → i ≤ j → j < length rs → (get_or (reaching h rs) i d).high ≤ (get_or (reaching h rs) j d).high
rising h [] i j d le lt = absurd (omega (arith, lt))
rising h (r ∷ rs) zero zero d le lt = omega arith
rising h (r ∷ rs) zero (suc j) d le lt = least (max r.high h) rs j d (omega (arith, lt))
rising h (r ∷ rs) (suc i) zero d le lt = absurd (omega (arith, le))
rising h (r ∷ rs) (suc i) (suc j) d le lt = rising (max r.high h) rs i j d (omega (arith, le)) (omega (arith, lt))

pub reaching-rises : (rs : List NumberRange) → IsNonDecreasingBy (λ r. r.low) rs → AreRising (reaching 0 rs)
reaching-rises rs sorted = record {
  lows = λ i j d le lt.
      let within : j < length rs = omega (arith, lt, length-reaching 0 rs) in
      let first = low-reaching 0 rs i d (omega (arith, le, within)) in
      let second = low-reaching 0 rs j d within in
      omega (arith, sorted i j d le within, first, second);
  highs = λ i j d le lt. rising 0 rs i j d le (omega (arith, lt, length-reaching 0 rs));
}

-- ---- the numbers stay

-- no range of these begins below `low`
abbrev Begins : (low : ℕ) → List NumberRange → Type 0
Begins low rs = (i : ℕ) (d : NumberRange) → i < length rs → low ≤ (get_or rs i d).low

one_more : (low high n : ℕ) (r : NumberRange) → low ≤ r.low → (b : Bool) → b ≡ (leb low n && leb n high) → (c c' : Bool) → (has n (up_to (max r.high high) r) || c) ≡ (has n (up_to (max r.high high) r) || c')
    → (b || (has n (up_to (max r.high high) r) || c)) ≡ (b || (has n r || c'))
one_more low high n r le true is c c' e = refl
one_more low high n r le false is c c' e =
    e ∙ ap (λ (t : Bool). t || c') same
  where
    same : has n (up_to (max r.high high) r) ≡ has n r
    same = grind (arith, nat_tests)

numbers_stay : (low high n : ℕ) (rs : List NumberRange) → Begins low rs → IsNonDecreasingBy (λ r. r.low) rs
    → ((leb low n && leb n high) || in_ranges (reaching high rs) n) ≡ ((leb low n && leb n high) || in_ranges rs n)
numbers_stay low high n [] begins sorted = refl
numbers_stay low high n (r ∷ rs) begins sorted =
    let m = max r.high high in
    let rest = numbers_stay r.low m n rs (λ i d lt. sorted 0 (suc i) d (omega arith) (omega (arith, lt))) (λ i j d le lt. sorted (suc i) (suc j) d (omega (arith, le)) (omega (arith, lt))) in
    one_more low high n r (begins 0 r (omega arith)) (leb low n && leb n high) refl (in_ranges (reaching m rs) n) (in_ranges rs n) rest

pub in_reaching : (rs : List NumberRange) (n : ℕ) → IsNonDecreasingBy (λ r. r.low) rs → in_ranges (reaching 0 rs) n ≡ in_ranges rs n
in_reaching [] n sorted = refl
in_reaching (r ∷ rs) n sorted =
    let none : max r.high 0 ≡ r.high = omega arith in
    let rest = numbers_stay r.low r.high n rs (λ i d lt. sorted 0 (suc i) d (omega arith) (omega (arith, lt))) (λ i j d le lt. sorted (suc i) (suc j) d (omega (arith, le)) (omega (arith, lt))) in
    ap (λ (h : ℕ). has n (up_to h r) || in_ranges (reaching h rs) n) none ∙ rest

-- ---- a set of a command

one_range : (a b n : ℕ) → has n (between a b) ≡ is_between a b n
one_range a b n = by (leb a b) refl
  where
    by : (t : Bool) → leb a b ≡ t → has n (cond t (record { low = a; high = b }) (record { low = b; high = a })) ≡ is_between a b n
    by true e = grind (arith, nat_tests)
    by false e = grind (arith, nat_tests)

in_resolved : (last n : ℕ) (ranges : List SeqRange) → in_ranges (map (range_of last) ranges) n ≡ in_set last ranges n
in_resolved last n [] = refl
in_resolved last n (r ∷ ranges) = ap₂ ◌||◌ (one_range (end_of last r.first) (end_of last r.last) n) (in_resolved last n ranges)

pub in_sorted : (last n : ℕ) (ranges : List SeqRange) (found sorted : List NumberRange) → found ≡ map (range_of last) ranges → IsPermutation found sorted → IsNonDecreasingBy (λ r. r.low) sorted
    → in_ranges (reaching 0 sorted) n ≡ in_set last ranges n
in_sorted last n ranges found sorted are same rises =
    in_reaching sorted n rises
    ∙ sym (list_any-IsPermutation (has n) found sorted same)
    ∙ ap (λ (rs : List NumberRange). in_ranges rs n) are
    ∙ in_resolved last n ranges

-- ---- a look-up

none_has : (n : ℕ) (rs : List NumberRange) (d : NumberRange) → ((i : ℕ) → i < length rs → has n (get_or rs i d) ≡ false) → in_ranges rs n ≡ false
none_has n [] d none = refl
none_has n (r ∷ rs) d none = ap₂ ◌||◌ (none 0 (omega arith)) (none_has n rs d (λ i lt. none (suc i) (omega (arith, lt))))

or_true : (b : Bool) → (b || true) ≡ true
or_true true = refl
or_true false = refl

one_has : (n : ℕ) (rs : List NumberRange) (i : ℕ) (d : NumberRange) → i < length rs → has n (get_or rs i d) ≡ true → in_ranges rs n ≡ true
one_has n [] i d lt e = absurd (omega (arith, lt))
one_has n (r ∷ rs) zero d lt e = ap (λ b. b || in_ranges rs n) e
one_has n (r ∷ rs) (suc i) d lt e = ap (λ b. has n r || b) (one_has n rs i d (omega (arith, lt)) e) ∙ or_true (has n r)

late : (n : ℕ) (r : NumberRange) → leb r.low n ≡ false → has n r ≡ false
late n r e = ap (λ b. b && leb n r.high) e

short : (n : ℕ) (r : NumberRange) → leb n r.high ≡ false → has n r ≡ false
short n r e = by (leb r.low n)
  where
    by : (b : Bool) → (b && leb n r.high) ≡ false
    by true = e
    by false = refl

-- no range begins with the number or before it
pub found_none : (n : ℕ) (rs : List NumberRange) → IsCount n rs 0 → false ≡ in_ranges rs n
found_none n [] point = refl
found_none n (r ∷ rs) point = sym (none_has n (r ∷ rs) r (λ i lt. late n (get_or (r ∷ rs) i r) (point.1 i r (omega arith) lt)))

-- the last range that does
pub found_last : (n : ℕ) (rs : List NumberRange) (i : ℕ) (d : NumberRange) → AreRising rs → i < length rs → IsCount n rs (i + 1) → leb n (get_or rs i d).high ≡ in_ranges rs n
found_last n rs i d rises within point = by (leb n (get_or rs i d).high) refl
  where
    too_short : (k : ℕ) → k ≤ i → leb n (get_or rs i d).high ≡ false → leb n (get_or rs k d).high ≡ false
    too_short k le e =
        let high : (get_or rs k d).high ≤ (get_or rs i d).high = rises.highs k i d le within in
        grind (arith, nat_tests)

    side : (k : ℕ) → k < length rs → leb n (get_or rs i d).high ≡ false → has n (get_or rs k d) ≡ false
    side k lt e = elim (cases_lt i k) [
      | inl after ↦ late n (get_or rs k d) (point.1 k d (omega (arith, after)) lt)
      | inr before ↦ short n (get_or rs k d) (too_short k before e)
    ]

    by : (b : Bool) → leb n (get_or rs i d).high ≡ b → b ≡ in_ranges rs n
    by true e =
        let begins : leb (get_or rs i d).low n ≡ true = point.0 i d (omega arith) (omega arith) in
        sym (one_has n rs i d within (ap₂ ◌&&◌ begins e))
    by false e = sym (none_has n rs d (λ k lt. side k lt e))
