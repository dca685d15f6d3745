-- Members of lists, and entries of maps.
use Rattle.std.proofs.Common.{◌≡◌, ◌+◌, ◌&&◌, ◌<◌, drop, get_or, inl, inr, ℕ, ℤ, zero, suc, Bool, true, false, List, [], ◌∷◌, Some, IsPermutation, Ordering, length, map as map_list, sym, ap, subst, ◌∙◌, arith}
use Rattle.std.specs.FinMap as map
use Rattle.std.specs.FinMap.{FinMap, IsAntisymmetric, get-entries}
use Rattle.std.specs.Cmp.{IsTotalOrder}
use Rattle.std.specs.List.{AllByRecursion, Contains, IsDistinct, list_all}
use Rattle.std.specs.Ordering.{eq_by_cmp, int_cmp}
use Rattle.std.proofs.lemmas.Bool.{both_ways}
use Rattle.std.proofs.lemmas.List.{drop_more}
use Rattle.std.proofs.lemmas.List.Sorted.{Contains-permutation}
use Rattle.std.proofs.lemmas.Cmp.{int_cmp_total, tied_itself}
use Rattle.std.specs.Ordering.{is_eq}
use Rattle.sqlite_rules.specs.Lists.{Has}
use Rattle.sqlite_rules.proofs.ListLemmas.{all_from, all_has, test_has}
use Rattle.imap_world.proofs.MovedEntries.{all_entries, listed_all}

pub contains_has : {X : Type 0} (xs : List X) (x : X) → Contains xs x → Has xs x
contains_has [] x h = absurd (omega (arith, h.1))
contains_has (y ∷ xs) x (zero, lt, is) = inl (sym is)
contains_has (y ∷ xs) x (suc k, lt, is) = inr (contains_has xs x (k, omega (arith, lt), is))

pub has_contains : {X : Type 0} (xs : List X) (x : X) → Has xs x → Contains xs x
has_contains [] x h = absurd h
has_contains (y ∷ xs) x (inl e) = (0, omega (arith), sym e)
has_contains (y ∷ xs) x (inr h) = let r = has_contains xs x h in (suc r.0, omega (arith, r.1), r.2)

pub differs : {X : Type 0} (f : X → ℤ) (z : X) (xs : List X) (y : X) → AllByRecursion (λ n. eq_by_cmp int_cmp (f z) n ≡ false) (map_list f xs) → Has xs y → f z ≡ f y → ⊥
differs f z [] y all h e = absurd h
differs f z (x ∷ xs) y all (inl p) e = both_ways _ all.0 (subst (λ n. eq_by_cmp int_cmp (f z) n ≡ true) (e ∙ ap f p) (ap is_eq (tied_itself int_cmp_total (f z))))
differs f z (x ∷ xs) y all (inr p) e = differs f z xs y all.1 p e

-- the same members, in another order
pub has_moved : {X : Type 0} (xs ys : List X) → IsPermutation xs ys → (x : X) → Has xs x → Has ys x
has_moved xs ys moved x h = contains_has ys x (Contains-permutation xs ys x moved (has_contains xs x h))

-- a test of all
pub at_index : {X : Type 0} (p : X → Bool) (xs : List X) (i : ℕ) (x : X) → i < length xs → x ≡ get_or xs i x → list_all p xs ≡ true → p x ≡ true
at_index p xs i x lt is all = test_has p xs x all (contains_has xs x (i, lt, sym is))

pub all_next : {X : Type 0} (p : X → Bool) (xs : List X) (i : ℕ) (x : X) → i < length xs → x ≡ get_or xs i x → p x ≡ true → list_all p (drop i xs) ≡ list_all p (drop (i + 1) xs)
all_next p xs i x lt is passes =
    let cut : drop i xs ≡ x ∷ drop (i + 1) xs = drop_more xs i x lt ∙ ap (λ y. y ∷ drop (i + 1) xs) (sym is) in
    ap (list_all p) cut ∙ ap (λ b. b && list_all p (drop (i + 1) xs)) passes

-- items with numbers that differ are known by them
pub one_by_number : {X : Type 0} (f : X → ℤ) (xs : List X) (x y : X) → IsDistinct (eq_by_cmp int_cmp) (map_list f xs) → Has xs x → Has xs y → f x ≡ f y → x ≡ y
unfolding IsDistinct
one_by_number f [] x y d hx hy e = absurd hx
one_by_number f (z ∷ xs) x y d (inl p) (inl q) e = p ∙ sym q
one_by_number f (z ∷ xs) x y d (inl p) (inr q) e = absurd (differs f z xs y d.0 q (ap f (sym p) ∙ e))
one_by_number f (z ∷ xs) x y d (inr p) (inl q) e = absurd (differs f z xs x d.0 p (ap f (sym q) ∙ sym e))
one_by_number f (z ∷ xs) x y d (inr p) (inr q) e = one_by_number f xs x y d.1 p q e

-- ---- entries of maps

module _ {K X : Type 0} (R : K → K → Ordering) (total : IsTotalOrder R) (only : IsAntisymmetric R) (itself : (k : K) → eq_by_cmp R k k ≡ true) (m : FinMap R X) where
  pub entry_get : (e : K × X) → Has (map.entries m) e → map.get m e.0 ≡ Some e.1
  entry_get e h = all_has (λ (d : K × X). map.get m d.0 ≡ Some d.1) (map.entries m) e (all_entries R total only itself (λ q x. map.get m q ≡ Some x) m (λ q x is. is)) h

  pub get_entry : (q : K) (x : X) → map.get m q ≡ Some x → Has (map.entries m) (q, x)
  get_entry q x is =
      listed_all R total only itself (λ k y. Has (map.entries m) (k, y)) (map.entries m) (all_from (λ (d : K × X). Has (map.entries m) (d.0, d.1)) (map.entries m) (λ d h. h)) q x (sym (get-entries m q) ∙ is)
