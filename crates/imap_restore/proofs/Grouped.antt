-- Rows in the order of a number: those with one number stand together, and a sort leaves them in their order.
use Rattle.std.proofs.Common.{◌≡◌, ◌<◌, ◌≤◌, ◌∙◌, ◌∷◌, [], ℕ, ℤ, zero, suc, Bool, true, false, cond, not, ◌&&◌, List, Ordering, Less, Equal, Greater, is_lt, is_le, is_eq, length, take, drop, get_or, arith, ap, refl, sym}
use Rattle.std.specs.Cmp.{IsStrictWeakOrder}
use Rattle.std.specs.Fn.{Called, ComparesAs}
use denote.Ref.{Bor}
use denote.Param.Members.{Mut}
use Rattle.std.specs.List.{AllByRecursion, filter}
use Rattle.std.specs.List.Sorted.{IsNonDecreasingBy, IsPartitionPoint, IsPartitionedBy, IsSortedBy, IsSortedByKey, IsStableBy, IsStableByKey, ties}
use Rattle.std.specs.Ordering.{int_cmp, int_eq, ordering_index, ordering_reverse}
use Rattle.std.proofs.lemmas.Bool.Decides.{Decides-int_eq}
use Rattle.std.proofs.lemmas.Cmp.{int_cmp_total}
use Rattle.std.proofs.lemmas.List.Elements.{filter_agree}
use Rattle.std.proofs.lemmas.List.Sorted.{ranks_by, searchable_from_sorted}
use Rattle.std.proofs.lemmas.Fn.{always_returns_same}

-- ---- numbers that are compared

lt_down : (r s : Ordering) → ordering_index r ≤ ordering_index s → is_lt s ≡ true → is_lt r ≡ true
lt_down Less s h e = refl
lt_down Equal Less h e = absurd (omega (arith, h))
lt_down Equal Equal h e = e
lt_down Equal Greater h e = e
lt_down Greater Less h e = absurd (omega (arith, h))
lt_down Greater Equal h e = absurd (omega (arith, h))
lt_down Greater Greater h e = e

le_down : (r s : Ordering) → ordering_index r ≤ ordering_index s → is_le s ≡ true → is_le r ≡ true
le_down Less s h e = refl
le_down Equal s h e = refl
le_down Greater Less h e = absurd (omega (arith, h))
le_down Greater Equal h e = absurd (omega (arith, h))
le_down Greater Greater h e = e

is_between : (r : Ordering) → is_lt r ≡ false → is_le r ≡ true → is_eq r ≡ true
is_between Less l u = absurd (cc l)
is_between Equal l u = refl
is_between Greater l u = absurd (cc u)

lower_apart : (r : Ordering) → is_lt r ≡ true → is_eq r ≡ false
lower_apart Less l = refl
lower_apart Equal l = absurd (cc l)
lower_apart Greater l = refl

higher_apart : (r : Ordering) → is_le r ≡ false → is_eq r ≡ false
higher_apart Less u = absurd (cc u)
higher_apart Equal u = absurd (cc u)
higher_apart Greater u = refl

-- neither is lower
tied : (r : Ordering) → not (is_lt r) && not (is_lt (ordering_reverse r)) ≡ is_eq r
tied Less = refl
tied Equal = refl
tied Greater = refl

even : (r : Ordering) → is_eq r ≡ is_eq (ordering_reverse r)
even Less = refl
even Equal = refl
even Greater = refl

module _ {X : Type 0} (m : X → ℤ) (id : ℤ) where
  abbrev at : X → Ordering
  at x = int_cmp (m x) id

  abbrev own : X → Bool
  own x = int_eq (m x) id

  -- ---- the places that two searches find

  rises : (xs : List X) → IsSortedByKey m int_cmp xs → IsNonDecreasingBy (λ x. ordering_index (at x)) xs
  rises xs up = searchable_from_sorted int_cmp_total m xs id up

  pub lower_first : (xs : List X) → IsSortedByKey m int_cmp xs → IsPartitionedBy (λ x. is_lt (at x)) xs
  lower_first xs up i j d le within passes = lt_down (at (get_or xs i d)) (at (get_or xs j d)) (rises xs up i j d le within) passes

  pub low_first : (xs : List X) → IsSortedByKey m int_cmp xs → IsPartitionedBy (λ x. is_le (at x)) xs
  low_first xs up i j d le within passes = le_down (at (get_or xs i d)) (at (get_or xs j d)) (rises xs up i j d le within) passes

  -- ---- the rows there

  skip : (x : X) (xs : List X) → own x ≡ false → filter own (x ∷ xs) ≡ filter own xs
  skip x xs e = ap (λ b. cond b (x ∷ filter own xs) (filter own xs)) e

  keep : (x : X) (xs : List X) → own x ≡ true → filter own (x ∷ xs) ≡ x ∷ filter own xs
  keep x xs e = ap (λ b. cond b (x ∷ filter own xs) (filter own xs)) e

  -- those before the first place are of lower numbers
  pub front : (xs : List X) (i : ℕ) → IsPartitionPoint (λ x. is_lt (at x) ≡ true) (λ x. is_lt (at x) ≡ false) xs i → filter own (drop i xs) ≡ filter own xs
  front xs zero point = refl
  front [] (suc i) point = refl
  front (x ∷ xs) (suc i) point =
      front xs i (λ k d low high. point.0 (suc k) d (omega arith) (omega (arith, high)), λ k d low high. point.1 (suc k) d (omega (arith, low)) (omega (arith, high)))
      ∙ sym (skip x xs (lower_apart (at x) (point.0 0 x (omega arith) (omega arith))))

  none_higher : (xs : List X) → ((k : ℕ) (d : X) → k < length xs → is_le (at (get_or xs k d)) ≡ false) → filter own xs ≡ []
  none_higher [] h = refl
  none_higher (x ∷ xs) h = skip x xs (higher_apart (at x) (h 0 x (omega arith))) ∙ none_higher xs (λ k d within. h (suc k) d (omega (arith, within)))

  -- from there on none is of a lower one
  pub from_place : (xs : List X) (i : ℕ) → IsPartitionPoint (λ x. is_lt (at x) ≡ true) (λ x. is_lt (at x) ≡ false) xs i → AllByRecursion (λ x. is_lt (at x) ≡ false) (drop i xs)
  from_place [] zero point = tt
  from_place [] (suc i) point = tt
  from_place (x ∷ xs) zero point = (point.1 0 x (omega arith) (omega arith), from_place xs 0 (λ k d low high. absurd (omega (arith, high)), λ k d low high. point.1 (suc k) d (omega arith) (omega (arith, high))))
  from_place (x ∷ xs) (suc i) point = from_place xs i (λ k d low high. point.0 (suc k) d (omega arith) (omega (arith, high)), λ k d low high. point.1 (suc k) d (omega (arith, low)) (omega (arith, high)))

  -- and up to the second those of the number itself
  pub own_first : (xs : List X) (i : ℕ) → i ≤ length xs → AllByRecursion (λ x. is_lt (at x) ≡ false) xs
      → IsPartitionPoint (λ x. is_le (at x) ≡ true) (λ x. is_le (at x) ≡ false) xs i → take i xs ≡ filter own xs
  own_first xs zero le from point = sym (none_higher xs (λ k d within. point.1 k d (omega arith) within))
  own_first [] (suc i) le from point = refl
  own_first (x ∷ xs) (suc i) le from point =
      ap (λ l. x ∷ l) (own_first xs i (omega (arith, le)) from.1 (λ k d low high. point.0 (suc k) d (omega arith) (omega (arith, high)), λ k d low high. point.1 (suc k) d (omega (arith, low)) (omega (arith, high))))
      ∙ sym (keep x xs (is_between (at x) from.0 (point.0 0 x (omega arith) (omega arith))))

  -- ---- a sort that leaves rows of one number in their order

  abbrev first_own : List X → Bool
  first_own [] = true
  first_own (x ∷ xs) = own x

  first_is : (xs : List X) (x : X) (rest : List X) → filter own xs ≡ x ∷ rest → own x ≡ true
  first_is [] x rest e = absurd (cc e)
  first_is (y ∷ ys) x rest e =
      elim (own y) as (λ b. own y ≡ b → cond b (y ∷ filter own ys) (filter own ys) ≡ x ∷ rest → own x ≡ true) [
        | true ↦ λ p q. sym (ap first_own q) ∙ p
        | false ↦ λ p q. first_is ys x rest q
      ] refl e

  abbrev lower : X → X → Bool
  lower x y = is_lt (int_cmp (m x) (m y))

  tie_is : (x y : X) → own x ≡ true → ties lower x y ≡ own y
  tie_is x y is =
      let back : int_cmp (m y) id ≡ ordering_reverse (int_cmp id (m y)) = int_cmp_total.antisymm (m y) id in
      ap (λ n. not (is_lt (int_cmp n (m y))) && not (is_lt (int_cmp (m y) n))) ((Decides-int_eq (m x) id).0 is)
      ∙ ap (λ r. not (is_lt (int_cmp id (m y))) && not (is_lt r)) back
      ∙ tied (int_cmp id (m y)) ∙ even (int_cmp id (m y)) ∙ ap is_eq (sym back)

  pub stable_own : (xs ys : List X) → IsStableByKey m int_cmp xs ys → filter own ys ≡ filter own xs
  stable_own xs ys stable = by (filter own ys) refl (filter own xs) refl
    where
      same : (x : X) → own x ≡ true → filter own ys ≡ filter own xs
      same x is = sym (filter_agree (ties lower x) own (λ y. tie_is x y is) ys) ∙ stable x ∙ filter_agree (ties lower x) own (λ y. tie_is x y is) xs

      by : (a : List X) → filter own ys ≡ a → (b : List X) → filter own xs ≡ b → a ≡ b
      by [] e [] f = refl
      by [] e (x ∷ r) f = sym e ∙ same x (first_is xs x r f) ∙ f
      by (y ∷ r) e b f = sym e ∙ same y (first_is ys y r e) ∙ f

-- ---- what a sort by these numbers ensures

module _ {X : Type 0} (m : X → ℤ) where
  abbrev less : X → X → Bool
  less x y = is_lt (int_cmp (m x) (m y))

  answers : {F : Type 0} (g : Mut F (Bor X × (Bor X × Unit {0})) Ordering) (f : F)
      → ((a : Bor X × (Bor X × Unit {0})) (r : Ordering) (f' : F) → Called g f a r f' → (r ≡ int_cmp (m a.0.now) (m a.1.0.now)) × (f' ≡ f)) → ComparesAs g less f
  answers g f h = always_returns_same g (λ a r. is_lt r ≡ is_lt (int_cmp (m a.0.now) (m a.1.0.now))) f (λ a r f' k. (ap is_lt (h a r f' k).0, (h a r f' k).1))

  pub sorted_by : {F : Type 0} {g : Mut F (Bor X × (Bor X × Unit {0})) Ordering} {f : F} (xs : List X)
      → ((lt : X → X → Bool) → IsStrictWeakOrder lt → ComparesAs g lt f → IsSortedBy lt xs)
      → ((a : Bor X × (Bor X × Unit {0})) (r : Ordering) (f' : F) → Called g f a r f' → (r ≡ int_cmp (m a.0.now) (m a.1.0.now)) × (f' ≡ f)) → IsSortedByKey m int_cmp xs
  sorted_by {g = g} {f = f} xs up h = up less (ranks_by int_cmp_total m) (answers g f h)

  pub stable_by : {F : Type 0} {g : Mut F (Bor X × (Bor X × Unit {0})) Ordering} {f : F} (xs ys : List X)
      → ((lt : X → X → Bool) → IsStrictWeakOrder lt → ComparesAs g lt f → IsStableBy lt xs ys)
      → ((a : Bor X × (Bor X × Unit {0})) (r : Ordering) (f' : F) → Called g f a r f' → (r ≡ int_cmp (m a.0.now) (m a.1.0.now)) × (f' ≡ f)) → IsStableByKey m int_cmp xs ys
  stable_by {g = g} {f = f} xs ys stable h = stable less (ranks_by int_cmp_total m) (answers g f h)
