-- Pairs that are put in the order of their keys, as the entries of a finite map are.
use Rattle.std.proofs.Common.{◌≡◌, ◌≢◌, ℕ, zero, suc, ◌+◌, ◌<◌, Bool, true, false, cond, ◌&&◌, List, [], ◌∷◌, length, get_or, map, IsTrue, IsPermutation, Ordering, T, Less, Equal, Greater, is_lt, is_eq, refl, sym, ap, ◌∙◌, subst, arith, suc-le-suc}
use Rattle.std.specs.Cmp.{IsTotalOrder}
use Rattle.std.specs.FinMap as fin
use Rattle.std.specs.FinMap.{FinMap, entries_sorted}
use Rattle.std.specs.FinMap.Entries.{below_all, is_sorted}
use Rattle.std.specs.List.{AllByRecursion, IsDistinct}
use Rattle.std.specs.List.Sorted.{IsSortedBy}
use Rattle.std.specs.Ordering.{eq_by_cmp, ordering_reverse}
use Rattle.std.proofs.lemmas.List.{get_or-map, length-map}
use Rattle.std.proofs.lemmas.List.Sorted.{IsPermutation-map, IsPermutation-sym, IsPermutation-trans}
use Rattle.std.proofs.lemmas.Map.Keys.{IsDistinct-cons, IsDistinct-from_apart, IsDistinct-IsPermutation, apart_from_distinct}

pub and_left : (a b : Bool) → (a && b) ≡ true → a ≡ true
and_left true b h = refl
and_left false b h = h

pub and_right : (a b : Bool) → (a && b) ≡ true → b ≡ true
and_right true b h = h
and_right false b h = absurd (cc h)

lesser : (r : Ordering) → is_lt r ≡ true → r ≡ Less
lesser Less h = refl
lesser Equal h = absurd (cc h)
lesser Greater h = absurd (cc h)

apart_if_less : (r : Ordering) → is_lt r ≡ true → is_eq r ≡ false
apart_if_less Less h = refl
apart_if_less Equal h = absurd (cc h)
apart_if_less Greater h = refl

same_back : (r : Ordering) → is_eq (ordering_reverse r) ≡ is_eq r
same_back Less = refl
same_back Equal = refl
same_back Greater = refl

is_true : (b : Bool) → T b → b ≡ true
is_true true t = refl
is_true false t = absurd t

module _ {K : Type 0} (cmp : K → K → Ordering) (total : IsTotalOrder cmp) where
  flips : (x y : K) → eq_by_cmp cmp x y ≡ eq_by_cmp cmp y x
  flips x y = ap is_eq (total.antisymm x y) ∙ same_back (cmp y x)

  rises_at : (x y : K) → eq_by_cmp cmp x y ≡ false → is_lt (cmp y x) ≡ false → cmp x y ≡ Less
  rises_at x y apart not_less = by (cmp x y) (cmp y x) (total.antisymm y x) apart not_less
    where
      by : (r s : Ordering) → s ≡ ordering_reverse r → is_eq r ≡ false → is_lt s ≡ false → r ≡ Less
      by Less s e apart not_less = refl
      by Equal s e apart not_less = absurd (cc apart)
      by Greater s e apart not_less = absurd (cc (sym not_less ∙ ap is_lt e))

  module _ {X : Type 0} where
    below_lower : (x y : K) (es : List (K × X)) → cmp x y ≡ Less → below_all cmp y es ≡ true → below_all cmp x es ≡ true
    below_lower x y [] lt h = refl
    below_lower x y (e ∷ es) lt h =
        let at = lesser (cmp y e.0) (and_left _ _ h) in
        ap (λ r. is_lt r && below_all cmp x es) (total.trans x y e.0 lt at) ∙ below_lower x y es lt (and_right (is_lt (cmp y e.0)) _ h)

    -- whether the name of e comes before the first of es
    abbrev pub goes_before : K × X → List (K × X) → Bool
    goes_before e [] = true
    goes_before e (f ∷ es) = is_lt (cmp e.0 f.0)

    pub sorted_more : (e : K × X) (es : List (K × X)) → is_sorted cmp (e ∷ es) ≡ (goes_before e es && is_sorted cmp es)
    sorted_more e [] = refl
    sorted_more e (f ∷ es) = by (is_lt (cmp e.0 f.0)) (is_sorted cmp (f ∷ es)) refl refl
      where
        by : (a b : Bool) → is_lt (cmp e.0 f.0) ≡ a → is_sorted cmp (f ∷ es) ≡ b → ((a && below_all cmp e.0 es) && b) ≡ (a && b)
        by true true lt h = ap (λ t. t && true) (below_lower e.0 f.0 es (lesser _ lt) (and_left (below_all cmp f.0 es) _ h))
        by true false lt h = cond_false (below_all cmp e.0 es)
          where
            cond_false : (t : Bool) → (t && false) ≡ false
            cond_false true = refl
            cond_false false = refl
        by false b lt h = refl

    apart_all : (x : K) (es : List (K × X)) → below_all cmp x es ≡ true → AllByRecursion (λ y. eq_by_cmp cmp x y ≡ false) (map (λ e. e.0) es)
    apart_all x [] h = tt
    apart_all x (e ∷ es) h = (apart_if_less (cmp x e.0) (and_left _ _ h), apart_all x es (and_right (is_lt (cmp x e.0)) _ h))

    distinct_of : (es : List (K × X)) → is_sorted cmp es ≡ true → IsDistinct (eq_by_cmp cmp) (map (λ e. e.0) es)
    distinct_of [] h = IsDistinct-from_apart (eq_by_cmp cmp) [] (λ i j d lt le. absurd (omega (arith, le)))
    distinct_of (e ∷ es) h = IsDistinct-cons (eq_by_cmp cmp) e.0 (map (λ e. e.0) es) (apart_all e.0 es (and_left (below_all cmp e.0 es) _ h)) (distinct_of es (and_right (below_all cmp e.0 es) _ h))

    sorted_by_places : (es : List (K × X)) → ((k : ℕ) (d : K × X) → suc k < length es → cmp (get_or es k d).0 (get_or es (suc k) d).0 ≡ Less) → is_sorted cmp es ≡ true
    sorted_by_places [] h = refl
    sorted_by_places (e ∷ []) h = refl
    sorted_by_places (e ∷ f ∷ es) h =
        sorted_more e (f ∷ es)
        ∙ ap (λ r. is_lt r && is_sorted cmp (f ∷ es)) (h 0 e (omega arith))
        ∙ sorted_by_places (f ∷ es) (λ k d lt. h (suc k) d (suc-le-suc lt))

    pub first_more : (e : K × X) (later : List (K × X)) (next : K × X) (r : Bool) → 0 < length later → next ≡ get_or later 0 next
        → r ≡ is_lt (cmp e.0 next.0) → is_sorted cmp (e ∷ later) ≡ (r && is_sorted cmp later)
    first_more e [] next r lt is tested = absurd (omega (arith, lt))
    first_more e (f ∷ es) next r lt is tested =
        sorted_more e (f ∷ es) ∙ ap (λ b. b && is_sorted cmp (f ∷ es)) (sym (tested ∙ ap (λ (x : K × X). is_lt (cmp e.0 x.0)) is))

    -- in order, the entries of a map strictly rise
    pub rising_if_any : (rows ys : List (K × X)) (m : FinMap cmp X) → IsPermutation rows ys → IsSortedBy (λ x y. is_lt (cmp x.0 y.0)) ys
        → IsPermutation rows (fin.entries m) → is_sorted cmp ys ≡ true
    rising_if_any rows ys m moved sorted is =
        sorted_by_places ys (λ k d lt.
        let keys = map (λ (e : K × X). e.0) ys in
        let next : k + 1 ≡ suc k = omega arith in
        let apart = apart_from_distinct (eq_by_cmp cmp) keys k (suc k) d.0 distinct (omega arith) (omega (arith, lt, length-map ys (λ (e : K × X). e.0))) in
        rises_at (get_or ys k d).0 (get_or ys (suc k) d).0
        (sym (ap (λ x. eq_by_cmp cmp x (get_or ys (suc k) d).0) (get_or-map (λ (e : K × X). e.0) ys k d d.0 (omega (arith, lt))))
        ∙ sym (ap (λ y. eq_by_cmp cmp (get_or keys k d.0) y) (get_or-map (λ (e : K × X). e.0) ys (suc k) d d.0 lt))
        ∙ apart)
        (subst (λ n. is_lt (cmp (get_or ys n d).0 (get_or ys k d).0) ≡ false) next (sorted k d (omega arith) (omega (arith, lt)))))
      where
        distinct : IsDistinct (eq_by_cmp cmp) (map (λ (e : K × X). e.0) ys)
        distinct =
            IsDistinct-IsPermutation (eq_by_cmp cmp) flips (map (λ (e : K × X). e.0) (fin.entries m)) (map (λ (e : K × X). e.0) ys)
            (IsPermutation-map (λ (e : K × X). e.0) (fin.entries m) ys (IsPermutation-trans (fin.entries m) rows ys (IsPermutation-sym rows (fin.entries m) is) moved))
            (distinct_of (fin.entries m) (is_true _ (entries_sorted m)))
