-- A set is printed with all of its numbers, and in as few ranges as there may be.
use Rattle.std.proofs.Common.{◌≡◌, ◌≢◌, ℕ, zero, suc, ◌+◌, ◌-◌, ◌<◌, ◌≤◌, Bool, true, false, not, cond, eqb, ltb, List, [], ◌∷◌, ◌++◌, length, refl, sym, ap, ◌∙◌, append_assoc, arith, inl, inr, ◌⊎◌, flat_map}
use Rattle.std.specs.List.{range_with_len}
use Rattle.std.proofs.lemmas.Bool.Decides.{nat_tests}
use Rattle.std.proofs.lemmas.Bool.{ltb-true}
use Rattle.imap_syntax.proofs.Writing.{both_true}
use Rattle.imap_print.specs.Sets.{Range, runs_from, rise_above, IsNumberSet}
use Rattle.imap_print.specs.Ranges.{range_numbers, RunsHaveTheNumbers, IsAmong, IsCovered, RunsAreFewest}

-- ---- the numbers

range_further : (start count : ℕ) → range_with_len start (suc count) ≡ range_with_len start count ++ (start + count) ∷ []
range_further start zero = let k : start ≡ start + 0 = omega arith in ap (λ (n : ℕ). n ∷ []) k
range_further start (suc count) =
    let k : start + 1 + count ≡ start + suc count = omega arith in
    ap (λ (ns : List ℕ). start ∷ ns) (range_further (start + 1) count ∙ ap (λ (n : ℕ). range_with_len (start + 1) count ++ n ∷ []) k)

longer : (first last : ℕ) → first ≤ last → range_numbers (record { first = first; last = last + 1 }) ≡ range_numbers (record { first = first; last = last }) ++ (last + 1) ∷ []
longer first last h =
    let one : last + 1 + 1 - first ≡ suc (last + 1 - first) = omega arith in
    let end : first + (last + 1 - first) ≡ last + 1 = omega arith in
    ap (range_with_len first) one ∙ range_further first (last + 1 - first) ∙ ap (λ (n : ℕ). range_with_len first (last + 1 - first) ++ n ∷ []) end

single : (n : ℕ) → range_numbers (record { first = n; last = n }) ≡ n ∷ []
single n = let one : n + 1 - n ≡ 1 = omega arith in ap (range_with_len n) one

-- by whether the next number goes on with the run
numbers_from_next : (first last n : ℕ) (numbers : List ℕ) (b : Bool) → eqb n (last + 1) ≡ b → first ≤ last
    → (first ≤ n → flat_map range_numbers (runs_from first n numbers) ≡ range_numbers (record { first = first; last = n }) ++ numbers)
    → flat_map range_numbers (runs_from n n numbers) ≡ range_numbers (record { first = n; last = n }) ++ numbers
    → flat_map range_numbers (cond b (runs_from first n numbers) (record { first = first; last = last } ∷ runs_from n n numbers)) ≡ range_numbers (record { first = first; last = last }) ++ n ∷ numbers
numbers_from_next first last n numbers true e h goes_on anew =
    let is : n ≡ last + 1 = grind (arith, nat_tests) in
    let le : first ≤ n = omega arith in
    goes_on le
    ∙ ap (λ (m : ℕ). range_numbers (record { first = first; last = m }) ++ numbers) is
    ∙ ap (λ (ns : List ℕ). ns ++ numbers) (longer first last h)
    ∙ append_assoc (range_numbers (record { first = first; last = last })) ((last + 1) ∷ []) numbers
    ∙ ap (λ (m : ℕ). range_numbers (record { first = first; last = last }) ++ m ∷ numbers) (sym is)
numbers_from_next first last n numbers false e h goes_on anew =
    ap (λ (ns : List ℕ). range_numbers (record { first = first; last = last }) ++ ns) (anew ∙ ap (λ (ns : List ℕ). ns ++ numbers) (single n))

numbers_from : (first last : ℕ) (numbers : List ℕ) → first ≤ last → flat_map range_numbers (runs_from first last numbers) ≡ range_numbers (record { first = first; last = last }) ++ numbers
numbers_from first last [] h = refl
numbers_from first last (n ∷ numbers) h =
    let same : n ≤ n = omega arith in
    numbers_from_next first last n numbers (eqb n (last + 1)) refl h (λ le. numbers_from first n numbers le) (numbers_from n n numbers same)

pub runs_have_the_numbers : (numbers : List ℕ) → RunsHaveTheNumbers numbers
runs_have_the_numbers [] = refl
runs_have_the_numbers (n ∷ numbers) = let le : n ≤ n = omega arith in numbers_from n n numbers le ∙ ap (λ (ns : List ℕ). ns ++ numbers) (single n)

-- ---- no fewer ranges

-- how many ranges begin at this number or above
abbrev begin_from : ℕ → List Range → ℕ
begin_from low [] = 0
begin_from low (range ∷ ranges) = cond (ltb range.first low) (begin_from low ranges) (suc (begin_from low ranges))

begin_from-le : (low : ℕ) (ranges : List Range) → begin_from low ranges ≤ length ranges
begin_from-le low [] = omega arith
begin_from-le low (range ∷ ranges) =
    let rest = begin_from-le low ranges in
    elim (ltb range.first low) as (λ b. cond b (begin_from low ranges) (suc (begin_from low ranges)) ≤ suc (length ranges)) [
      | true ↦ omega (arith, rest)
      | false ↦ omega (arith, rest)
    ]

begin_from-falls : (low high : ℕ) (ranges : List Range) → low ≤ high → begin_from high ranges ≤ begin_from low ranges
begin_from-falls low high [] h = omega arith
begin_from-falls low high (range ∷ ranges) h = falls low high range.first (begin_from high ranges) (begin_from low ranges) (ltb range.first high) (ltb range.first low) refl refl h (begin_from-falls low high ranges h)
  where
    falls : (low high first a b : ℕ) (x y : Bool) → ltb first high ≡ x → ltb first low ≡ y → low ≤ high → a ≤ b → cond x a (suc a) ≤ cond y b (suc b)
    falls low high first a b true true e f h k = k
    falls low high first a b true false e f h k = omega arith
    falls low high first a b false true e f h k = absurd (let p : high ≤ first = grind (arith, nat_tests) in let q : first < low = grind (arith, nat_tests) in omega arith)
    falls low high first a b false false e f h k = omega arith

-- one of the ranges begins at this number
abbrev BeginsAt : ℕ → List Range → Type 0
BeginsAt n [] = ⊥
BeginsAt n (range ∷ ranges) = (range.first ≡ n) ⊎ BeginsAt n ranges

-- one more begins at the lower number than above it
begin_from-more : (low high : ℕ) (ranges : List Range) → low < high → BeginsAt low ranges → suc (begin_from high ranges) ≤ begin_from low ranges
begin_from-more low high [] h b = absurd b
begin_from-more low high (range ∷ ranges) h (inl at) =
    let le : low ≤ high = omega arith in
    let rest = begin_from-falls low high ranges le in
    let below : ltb range.first high ≡ true = grind (arith, nat_tests) in
    let here : ltb range.first low ≡ false = grind (arith, nat_tests) in
    rw (below, here) (omega (arith, rest))
begin_from-more low high (range ∷ ranges) h (inr b) = more low high range.first (begin_from high ranges) (begin_from low ranges) (ltb range.first high) (ltb range.first low) refl refl h (begin_from-more low high ranges h b)
  where
    more : (low high first a b : ℕ) (x y : Bool) → ltb first high ≡ x → ltb first low ≡ y → low < high → suc a ≤ b → suc (cond x a (suc a)) ≤ cond y b (suc b)
    more low high first a b true true e f h k = k
    more low high first a b true false e f h k = omega arith
    more low high first a b false true e f h k = absurd (let p : high ≤ first = grind (arith, nat_tests) in let q : first < low = grind (arith, nat_tests) in omega arith)
    more low high first a b false false e f h k = omega arith

begin_from-one : (low : ℕ) (ranges : List Range) → BeginsAt low ranges → 1 ≤ begin_from low ranges
begin_from-one low ranges b = let lt : low < suc low = omega arith in let more = begin_from-more low (suc low) ranges lt b in omega (arith, more)

-- the ranges have just these numbers
abbrev HaveJust : List ℕ → List Range → Type 0
HaveJust whole ranges = (n : ℕ) → (IsAmong n whole → IsCovered n ranges) × (IsCovered n ranges → IsAmong n whole)

-- a number before which none stands begins a range
starts_range : (n : ℕ) (ranges : List Range) → IsCovered n ranges → ((m : ℕ) → m + 1 ≡ n → IsCovered m ranges → ⊥) → BeginsAt n ranges
starts_range n [] c none = absurd c
starts_range n (range ∷ ranges) (inl in_it) none = begins n range.first range.last ranges in_it.0 in_it.1 none (ltb range.first n) refl
  where
    begins : (n first last : ℕ) (ranges : List Range) → first ≤ n → n ≤ last → ((m : ℕ) → m + 1 ≡ n → ((first ≤ m) × (m ≤ last)) ⊎ IsCovered m ranges → ⊥) → (b : Bool) → ltb first n ≡ b → (first ≡ n) ⊎ BeginsAt n ranges
    begins n first last ranges low high none true e =
        let lt : first < n = grind (arith, nat_tests) in
        absurd (none (n - 1) (omega arith) (inl (omega arith, omega arith)))
    begins n first last ranges low high none false e = let ge : n ≤ first = grind (arith, nat_tests) in inl (omega arith)
starts_range n (range ∷ ranges) (inr c) none = inr (starts_range n ranges c (λ m e h. none m e (inr h)))

-- a number of the list before which none stands
record Starts (whole : List ℕ) (n : ℕ) : Type 0 where
  there : IsAmong n whole
  before : (m : ℕ) → m + 1 ≡ n → IsAmong m whole → ⊥

begins_at : (whole : List ℕ) (ranges : List Range) → HaveJust whole ranges → (n : ℕ) → Starts whole n → BeginsAt n ranges
begins_at whole ranges same n s = starts_range n ranges ((same n).0 s.there) (λ m e c. s.before m e ((same m).1 c))

-- the numbers are above this one, each above the one before
abbrev RiseFrom : ℕ → List ℕ → Type 0
RiseFrom low [] = Unit {0}
RiseFrom low (n ∷ numbers) = (low < n) × RiseFrom n numbers

rising : (low : ℕ) (numbers : List ℕ) → rise_above low numbers ≡ true → RiseFrom low numbers
rising low [] h = tt
rising low (n ∷ numbers) h =
    let parts = both_true (ltb low n) (rise_above n numbers) h in
    (ltb-true low n parts.0, rising n numbers parts.1)

above : (low m : ℕ) (numbers : List ℕ) → RiseFrom low numbers → IsAmong m numbers → low < m
above low m [] r a = absurd a
above low m (n ∷ numbers) r (inl e) = let lt = r.0 in omega (arith, lt)
above low m (n ∷ numbers) r (inr a) = let lt = r.0 in let more = above n m numbers r.1 a in omega (arith, lt, more)

-- what is left of a list after its `last`
record Left (whole : List ℕ) (last : ℕ) (numbers : List ℕ) : Type 0 where
  rise : RiseFrom last numbers
  there : (m : ℕ) → IsAmong m numbers → IsAmong m whole
  all : (m : ℕ) → last < m → IsAmong m whole → IsAmong m numbers

left_next : (whole : List ℕ) (last n : ℕ) (numbers : List ℕ) → Left whole last (n ∷ numbers) → Left whole n numbers
left_next whole last n numbers l = record {
  rise = l.rise.1;
  there = λ m a. l.there m (inr a);
  all = λ m lt a. later m lt (l.all m (let low = l.rise.0 in omega (arith, low)) a);
}
  where
    later : (m : ℕ) → n < m → (m ≡ n) ⊎ IsAmong m numbers → IsAmong m numbers
    later m lt (inl e) = absurd (omega arith)
    later m lt (inr a) = a

starts_next : (whole : List ℕ) (last n : ℕ) (numbers : List ℕ) → Left whole last (n ∷ numbers) → n ≢ last + 1 → Starts whole n
starts_next whole last n numbers l ne = record {
  there = l.there n (inl refl);
  before = λ m e a.
      let low = l.rise.0 in
      let lt : last < m = omega (arith, low) in
      none m e (l.all m lt a);
}
  where
    none : (m : ℕ) → m + 1 ≡ n → (m ≡ n) ⊎ IsAmong m numbers → ⊥
    none m e (inl is) = omega arith
    none m e (inr a) = let gt = above n m numbers l.rise.1 a in omega (arith, gt)

few_next : (whole : List ℕ) (ranges : List Range) → HaveJust whole ranges → (first last n : ℕ) (numbers : List ℕ) (b : Bool) → eqb n (last + 1) ≡ b → first ≤ last → Starts whole first → Left whole last (n ∷ numbers)
    → (first ≤ n → Left whole n numbers → length (runs_from first n numbers) ≤ begin_from first ranges)
    → (Starts whole n → Left whole n numbers → length (runs_from n n numbers) ≤ begin_from n ranges)
    → length (cond b (runs_from first n numbers) (record { first = first; last = last } ∷ runs_from n n numbers)) ≤ begin_from first ranges
few_next whole ranges same first last n numbers true e h s l goes_on anew =
    let is : n ≡ last + 1 = grind (arith, nat_tests) in
    let le : first ≤ n = omega arith in
    goes_on le (left_next whole last n numbers l)
few_next whole ranges same first last n numbers false e h s l goes_on anew =
    let ne : n ≢ last + 1 = grind (arith, nat_tests) in
    let low = l.rise.0 in
    let lt : first < n = omega (arith, low) in
    let rest = anew (starts_next whole last n numbers l ne) (left_next whole last n numbers l) in
    let more = begin_from-more first n ranges lt (begins_at whole ranges same first s) in
    omega (arith, rest, more)

few : (whole : List ℕ) (ranges : List Range) → HaveJust whole ranges → (first last : ℕ) (numbers : List ℕ) → first ≤ last → Starts whole first → Left whole last numbers → length (runs_from first last numbers) ≤ begin_from first ranges
few whole ranges same first last [] h s l = begin_from-one first ranges (begins_at whole ranges same first s)
few whole ranges same first last (n ∷ numbers) h s l =
    let le : n ≤ n = omega arith in
    few_next whole ranges same first last n numbers (eqb n (last + 1)) refl h s l (λ low left. few whole ranges same first n numbers low s left) (λ starts left. few whole ranges same n n numbers le starts left)

at_first : (n : ℕ) (numbers : List ℕ) → RiseFrom n numbers → Starts (n ∷ numbers) n
at_first n numbers r = record { there = inl refl; before = none }
  where
    none : (m : ℕ) → m + 1 ≡ n → (m ≡ n) ⊎ IsAmong m numbers → ⊥
    none m e (inl is) = omega arith
    none m e (inr a) = let gt = above n m numbers r a in omega (arith, gt)

left_first : (n : ℕ) (numbers : List ℕ) → RiseFrom n numbers → Left (n ∷ numbers) n numbers
left_first n numbers r = record { rise = r; there = λ m a. inr a; all = later }
  where
    later : (m : ℕ) → n < m → (m ≡ n) ⊎ IsAmong m numbers → IsAmong m numbers
    later m lt (inl e) = absurd (omega arith)
    later m lt (inr a) = a

pub runs_are_fewest : (numbers : List ℕ) → IsNumberSet numbers → RunsAreFewest numbers
runs_are_fewest [] set ranges same = omega arith
runs_are_fewest (n ∷ numbers) set ranges same =
    let r : RiseFrom n numbers = (rising 0 (n ∷ numbers) (both_true (not (eqb (length (n ∷ numbers)) 0)) (rise_above 0 (n ∷ numbers)) set.rising).1).1 in
    let le : n ≤ n = omega arith in
    let fits = few (n ∷ numbers) ranges same n n numbers le (at_first n numbers r) (left_first n numbers r) in
    let most = begin_from-le n ranges in
    omega (arith, fits, most)
