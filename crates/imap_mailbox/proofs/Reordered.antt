-- Lists in another order: what stays, and which order is the one that rises.
use Rattle.std.proofs.Common.{◌≡◌, ℕ, suc, ◌+◌, ◌<◌, ◌≤◌, Bool, true, false, cond, ◌&&◌, leb, ltb, eqb, List, [], ◌∷◌, ◌++◌, length, get_or, sum_by, refl, sym, ap, ap₂, ◌∙◌, subst, arith, ⊎_elim, le_antisymm, IsPermutation, suc-le-suc, zero, map, map-id, filter, inl, inr, le_of_suc-le-suc, ◌⊎◌, Contains}
use Rattle.std.specs.List.Sorted.{IsNonDecreasing, IsNonDecreasingBy}
use Rattle.std.proofs.lemmas.Bool.{cases_lt, eqb-true, lt-ltb, le-leb, leb-true, ltb-true}
use Rattle.std.proofs.lemmas.List.Sorted.{sum_by-IsPermutation, Contains-permutation}
use Rattle.std.proofs.lemmas.List.Sums.{sum_by-cons}
use Rattle.imap_mailbox.specs.Restored.{IsRun}
use Rattle.imap_mailbox.specs.Summary.{Rises, count_of, given_once}
use Rattle.imap_mailbox.proofs.Counts.{one, one_same, one_other, count_more}
use Rattle.imap_mailbox.proofs.Rising.{rises_end}

count_sum : (n : ℕ) (ns : List ℕ) → count_of n ns ≡ sum_by (λ m. one m n) ns
count_sum n [] = refl
count_sum n (m ∷ ns) = omega (arith, count_more n m ns, sum_by-cons (λ m. one m n) m ns, count_sum n ns)

pub count_moved : (n : ℕ) (xs ys : List ℕ) → IsPermutation xs ys → count_of n ys ≡ count_of n xs
count_moved n xs ys h = count_sum n ys ∙ sum_by-IsPermutation (λ m. one m n) xs ys h ∙ sym (count_sum n xs)

pub count_append : (n : ℕ) (xs ys : List ℕ) → count_of n (xs ++ ys) ≡ count_of n xs + count_of n ys
count_append n [] ys = omega arith
count_append n (x ∷ xs) ys = omega (arith, count_more n x (xs ++ ys), count_more n x xs, count_append n xs ys)

-- ---- numbers in order

-- none is less than the one before it, and the first is `low` or more
abbrev pub Ordered : ℕ → List ℕ → Type 0
Ordered low [] = Unit {0}
Ordered low (n ∷ ns) = (low ≤ n) × Ordered n ns

module _ {X : Type 0} (f : X → ℕ) where
  tail_ordered : (x : X) (xs : List X) → IsNonDecreasingBy f (x ∷ xs) → IsNonDecreasingBy f xs
  tail_ordered x xs h i j d le lt = h (suc i) (suc j) d (suc-le-suc le) (suc-le-suc lt)

  ordered_after : (x : X) (xs : List X) → IsNonDecreasingBy f (x ∷ xs) → Ordered (f x) (map f xs)
  ordered_after x [] h = tt
  ordered_after x (y ∷ xs) h = (h 0 1 x (omega arith) (omega arith), ordered_after y xs (tail_ordered x (y ∷ xs) h))

  pub ordered_by : (xs : List X) → IsNonDecreasingBy f xs → Ordered 0 (map f xs)
  ordered_by [] h = tt
  ordered_by (x ∷ xs) h = (omega arith, ordered_after x xs h)

ordered_lower : (less low : ℕ) (ns : List ℕ) → less ≤ low → Ordered low ns → Ordered less ns
ordered_lower less low [] le h = tt
ordered_lower less low (n ∷ ns) le h = let at : low ≤ n = h.0 in (omega (arith, at, le), h.1)

pub ordered_kept : {X : Type 0} (f : X → ℕ) (p : X → Bool) (low : ℕ) (xs : List X) → Ordered low (map f xs) → Ordered low (map f (filter p xs))
ordered_kept f p low [] h = tt
ordered_kept f p low (x ∷ xs) h = by (p x) (ordered_kept f p (f x) xs h.1)
  where
    by : (b : Bool) → Ordered (f x) (map f (filter p xs)) → Ordered low (map f (cond b (x ∷ filter p xs) (filter p xs)))
    by true rest = (h.0, rest)
    by false rest = ordered_lower low (f x) (map f (filter p xs)) h.0 rest

from_low : (low : ℕ) (ns : List ℕ) → Ordered low ns → (m : ℕ) → 0 < count_of m ns → low ≤ m
from_low low [] h m lt = omega (arith, lt)
from_low low (n ∷ ns) h m lt = by (eqb n m) refl lt (from_low n ns h.1 m)
  where
    by : (b : Bool) → eqb n m ≡ b → 0 < cond b (1 + count_of m ns) (count_of m ns) → (0 < count_of m ns → n ≤ m) → low ≤ m
    by true e lt rest = let is = eqb-true n m e in let le : low ≤ n = h.0 in omega (arith, is, le)
    by false e lt rest = let more = rest lt in let le : low ≤ n = h.0 in omega (arith, more, le)

pub rises_ordered : (low high k : ℕ) (ns : List ℕ) → low ≤ high → Ordered k ns → ((m : ℕ) → count_of m ns ≤ 1) → ((m : ℕ) → 0 < count_of m ns → (low ≤ m) × (m < high)) → Rises low high ns
rises_ordered low high k [] le sorted once within = le
rises_ordered low high k (n ∷ ns) le sorted once within =
    let at = within n (omega (arith, count_more n n ns, one_same n n refl)) in
    (at.0, rises_ordered (n + 1) high n ns (omega (arith, at.1)) sorted.1 once_more later)
  where
    once_more : (m : ℕ) → count_of m ns ≤ 1
    once_more m = let all = once m in omega (arith, all, count_more m n ns)

    later : (m : ℕ) → 0 < count_of m ns → (n + 1 ≤ m) × (m < high)
    later m lt =
        let all = within m (omega (arith, lt, count_more m n ns)) in
        let from = from_low n ns sorted.1 m lt in (
          ⊎_elim (λ (less : n < m). omega (arith, less))
              (λ (le : m ≤ n). let is : n ≡ m = le_antisymm from le in let most = once m in omega (arith, most, count_more m n ns, one_same n m is, lt))
              (cases_lt n m),
          all.1,
        )

pub rises_sorted : (low high : ℕ) (ns : List ℕ) → low ≤ high → IsNonDecreasing ns → ((m : ℕ) → count_of m ns ≤ 1) → ((m : ℕ) → 0 < count_of m ns → (low ≤ m) × (m < high)) → Rises low high ns
rises_sorted low high ns le sorted = rises_ordered low high 0 ns le (subst (Ordered 0) (map-id ns) (ordered_by (λ n. n) ns sorted))

pub within_risen : (low high : ℕ) (ns : List ℕ) → Rises low high ns → (m : ℕ) → 0 < count_of m ns → (low ≤ m) × (m < high)
within_risen low high [] h m lt = omega (arith, lt)
within_risen low high (n ∷ ns) h m lt = by (eqb n m) refl lt (within_risen (n + 1) high ns h.1 m)
  where
    by : (b : Bool) → eqb n m ≡ b → 0 < cond b (1 + count_of m ns) (count_of m ns) → (0 < count_of m ns → (n + 1 ≤ m) × (m < high)) → (low ≤ m) × (m < high)
    by true e lt rest =
        let is = eqb-true n m e in
        let from : low ≤ n = h.0 in
        let end = rises_end (n + 1) high ns h.1 in
        (omega (arith, is, from), omega (arith, is, end))
    by false e lt rest = let at = rest lt in let from : low ≤ n = h.0 in (omega (arith, from, at.0), at.1)

pub once_risen : (low high : ℕ) (ns : List ℕ) → Rises low high ns → (m : ℕ) → count_of m ns ≤ 1
once_risen low high [] h m = omega arith
once_risen low high (n ∷ ns) h m = by (eqb n m) refl (once_risen (n + 1) high ns h.1 m) (within_risen (n + 1) high ns h.1 m)
  where
    by : (b : Bool) → eqb n m ≡ b → count_of m ns ≤ 1 → (0 < count_of m ns → (n + 1 ≤ m) × (m < high)) → cond b (1 + count_of m ns) (count_of m ns) ≤ 1
    by true e most rest =
        let is = eqb-true n m e in
        ⊎_elim (λ (lt : 0 < count_of m ns). let at = rest lt in omega (arith, at.0, is)) (λ (none : count_of m ns ≤ 0). omega (arith, none)) (cases_lt 0 (count_of m ns))
    by false e most rest = most

-- ---- runs

pub run_rises : (low high : ℕ) (ns : List ℕ) → IsRun low high ns → Rises low high ns
run_rises low high [] h = omega (arith, h)
run_rises low high (n ∷ ns) h =
    let is : n ≡ low = h.0 in
    (omega (arith, is), subst (λ k. Rises (k + 1) high ns) (sym is) (run_rises (low + 1) high ns h.1))

pub counted_run : (low high : ℕ) (ns : List ℕ) → IsRun low high ns → (m : ℕ) → low ≤ m → m < high → 0 < count_of m ns
counted_run low high [] h m le lt = let is : low ≡ high = h in omega (arith, is, le, lt)
counted_run low high (n ∷ ns) h m le lt =
    let is : n ≡ low = h.0 in
    ⊎_elim (λ (less : low < m). let rest = counted_run (low + 1) high ns h.1 m (omega (arith, less)) lt in omega (arith, rest, count_more m n ns))
    (λ (most : m ≤ low). let same : n ≡ m = is ∙ le_antisymm le most in omega (arith, count_more m n ns, one_same n m same))
    (cases_lt low m)

pub run_counted : (low high : ℕ) (ns : List ℕ) → Rises low high ns → ((m : ℕ) → low ≤ m → m < high → 0 < count_of m ns) → IsRun low high ns
run_counted low high [] h all =
    let le : low ≤ high = h in
    ⊎_elim (λ (lt : low < high). let some = all low (omega arith) lt in absurd (omega (arith, some))) (λ (ge : high ≤ low). le_antisymm le ge) (cases_lt low high)
run_counted low high (n ∷ ns) h all =
    (first, run_counted (low + 1) high ns (subst (λ k. Rises (k + 1) high ns) first h.1) later)
  where
    from : low ≤ n
    from = h.0

    end : n + 1 ≤ high
    end = rises_end (n + 1) high ns h.1

    first : n ≡ low
    first =
        ⊎_elim
        (λ (less : low < n).
        let some = all low (omega arith) (omega (arith, less, end)) in
        let other = one_other n low (λ e. omega (arith, e, less)) in
        let at = within_risen (n + 1) high ns h.1 low (omega (arith, some, other, count_more low n ns)) in
        omega (arith, at.0, less))
        (λ (le : n ≤ low). le_antisymm le from)
        (cases_lt low n)

    later : (m : ℕ) → low + 1 ≤ m → m < high → 0 < count_of m ns
    later m le lt =
        let some = all m (omega (arith, le)) lt in
        let other = one_other n m (λ e. omega (arith, e, first, le)) in
        omega (arith, some, other, count_more m n ns)

-- ---- UIDs that were given

pub given_one : (next uid : ℕ) → 1 ≤ uid → uid < next → given_once next uid ≡ 1
given_one next uid le lt = ap₂ (λ a b. cond (a && b) 1 0) (le-leb 1 uid le) (lt-ltb uid next lt)

pub given_within : (next uid : ℕ) → 0 < given_once next uid → (1 ≤ uid) × (uid < next)
given_within next uid lt = by (leb 1 uid) (ltb uid next) refl refl lt
  where
    by : (a b : Bool) → leb 1 uid ≡ a → ltb uid next ≡ b → 0 < cond (a && b) 1 0 → (1 ≤ uid) × (uid < next)
    by true true e f lt = (leb-true 1 uid e, ltb-true uid next f)
    by true false e f lt = omega (arith, lt)
    by false b e f lt = omega (arith, lt)

pub given_most : (next uid : ℕ) → given_once next uid ≤ 1
given_most next uid = by (leb 1 uid && ltb uid next)
  where
    by : (b : Bool) → cond b 1 0 ≤ 1
    by true = omega arith
    by false = omega arith

-- ---- lists that rise by a number of each element, and have the same elements

abbrev pub Has : {X : Type 0} → List X → X → Type 0
Has [] x = ⊥
Has (y ∷ ys) x = (y ≡ x) ⊎ Has ys x

has_at : {X : Type 0} (xs : List X) (x : X) (k : ℕ) → k < length xs → get_or xs k x ≡ x → Has xs x
has_at [] x k lt e = absurd (omega (arith, lt))
has_at (y ∷ ys) x zero lt e = inl e
has_at (y ∷ ys) x (suc k) lt e = inr (has_at ys x k (le_of_suc-le-suc lt) e)

contains_of : {X : Type 0} (xs : List X) (x : X) → Has xs x → Contains xs x
contains_of [] x h = absurd h
contains_of (y ∷ ys) x (inl e) = (0, omega arith, e)
contains_of (y ∷ ys) x (inr h) = let at = contains_of ys x h in (suc at.0, suc-le-suc at.1, at.2)

pub has_moved : {X : Type 0} (xs ys : List X) → IsPermutation xs ys → (x : X) → Has xs x → Has ys x
has_moved xs ys h x has = let at = Contains-permutation xs ys x h (contains_of xs x has) in has_at ys x at.0 at.1 at.2

module _ {X : Type 0} (f : X → ℕ) where
  from_there : (low high : ℕ) (xs : List X) → Rises low high (map f xs) → (x : X) → Has xs x → low ≤ f x
  from_there low high [] h x has = absurd has
  from_there low high (y ∷ xs) h x (inl e) = let le : low ≤ f y = h.0 in let is = ap f e in omega (arith, le, is)
  from_there low high (y ∷ xs) h x (inr has) = let le : low ≤ f y = h.0 in let rest = from_there (f y + 1) high xs h.1 x has in omega (arith, le, rest)

  same_head : (x y : X) (xs ys : List X) → ((z : X) → Has xs z → f x + 1 ≤ f z) → ((z : X) → Has ys z → f y + 1 ≤ f z) → (y ≡ x) ⊎ Has ys x → (x ≡ y) ⊎ Has xs y → x ≡ y
  same_head x y xs ys after later (inl e) back = sym e
  same_head x y xs ys after later (inr has) (inl e) = e
  same_head x y xs ys after later (inr has) (inr had) = let a = later x has in let b = after y had in absurd (omega (arith, a, b))

  in_tail : (x y : X) (ys : List X) → x ≡ y → (z : X) → f x + 1 ≤ f z → (y ≡ z) ⊎ Has ys z → Has ys z
  in_tail x y ys is z le (inl e) = let same = ap f (is ∙ e) in absurd (omega (arith, le, same))
  in_tail x y ys is z le (inr has) = has

  pub same_rising : (low high more end : ℕ) (xs ys : List X) → Rises low high (map f xs) → Rises more end (map f ys)
      → ((x : X) → Has xs x → Has ys x) → ((x : X) → Has ys x → Has xs x) → xs ≡ ys
  same_rising low high more end [] [] h k there back = refl
  same_rising low high more end [] (y ∷ ys) h k there back = absurd (back y (inl refl))
  same_rising low high more end (x ∷ xs) [] h k there back = absurd (there x (inl refl))
  same_rising low high more end (x ∷ xs) (y ∷ ys) h k there back =
      let after = from_there (f x + 1) high xs h.1 in
      let later = from_there (f y + 1) end ys k.1 in
      let is = same_head x y xs ys after later (there x (inl refl)) (back y (inl refl)) in
      ap₂ (λ z zs. z ∷ zs) is
      (same_rising (f x + 1) high (f y + 1) end xs ys h.1 k.1
      (λ z has. in_tail x y ys is z (after z has) (there z (inr has)))
      (λ z has. in_tail y x xs (sym is) z (later z has) (back z (inr has))))
