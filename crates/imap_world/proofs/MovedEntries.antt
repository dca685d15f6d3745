-- Entries of a map, and the same entries in another order.
use Rattle.std.proofs.Common.{◌≡◌, Bool, true, false, cond, List, [], ◌∷◌, Option, Some, None, IsPermutation, Ordering, Less, Equal, Greater, is_lt, is_eq, refl, sym, ap, ◌∙◌, subst}
use Rattle.std.specs.Cmp.{IsTotalOrder}
use Rattle.std.specs.FinMap as fin
use Rattle.std.specs.FinMap.{FinMap, IsAntisymmetric, entries_sorted, get-entries, same_map}
use Rattle.std.specs.FinMap.Entries.{below_all, find, is_sorted}
use Rattle.std.specs.List.{AllByRecursion}
use Rattle.std.specs.Ordering.{eq_by_cmp}
use Rattle.std.specs.Prelude.{T}
use Rattle.std.proofs.lemmas.List.Elements.{All-from_recursion, recursion_from_All}
use Rattle.std.proofs.lemmas.List.Sorted.{All-permutation, IsPermutation-sym}
use Rattle.imap_names.proofs.OrderLaws.{tied}
use Rattle.imap_values.proofs.InOrder.{and_left, and_right}

apart_if_less : (r : Ordering) → is_lt r ≡ true → is_eq r ≡ false
apart_if_less Less h = refl
apart_if_less Equal h = absurd (cc h)
apart_if_less Greater h = refl

is_true : (b : Bool) → T b → b ≡ true
is_true true t = refl
is_true false t = absurd t

module _ {K X : Type 0} (R : K → K → Ordering) (total : IsTotalOrder R) (only : IsAntisymmetric R) (itself : (k : K) → eq_by_cmp R k k ≡ true) where
  not_below : (q : K) (es : List (K × X)) → below_all R q es ≡ true → find R q es ≡ None
  not_below q [] h = refl
  not_below q (e ∷ es) h =
      ap (λ b. cond b (Some e.1) (find R q es)) (apart_if_less (R q e.0) (and_left _ _ h))
      ∙ not_below q es (and_right (is_lt (R q e.0)) _ h)

  -- what holds of all that is found holds of each entry
  pub all_listed : (P : K → X → Type 0) (es : List (K × X)) → is_sorted R es ≡ true → ((q : K) (x : X) → find R q es ≡ Some x → P q x) → AllByRecursion (λ (e : K × X). P e.0 e.1) es
  all_listed P [] sorted h = tt
  all_listed P (e ∷ es) sorted h = (
    h e.0 e.1 (ap (λ b. cond b (Some e.1) (find R e.0 es)) (itself e.0)),
    all_listed P es (and_right (below_all R e.0 es) _ sorted) (λ q x there. h q x (by q x there (eq_by_cmp R q e.0) refl)),
  )
    where
      by : (q : K) (x : X) → find R q es ≡ Some x → (b : Bool) → eq_by_cmp R q e.0 ≡ b → cond b (Some e.1) (find R q es) ≡ Some x
      by q x there true at = absurd (cc (sym there ∙ ap (λ k. find R k es) (only q e.0 (tied _ at)) ∙ not_below e.0 es (and_left (below_all R e.0 es) _ sorted)))
      by q x there false at = there

  -- what holds of each entry holds of what is found
  pub listed_all : (P : K → X → Type 0) (es : List (K × X)) → AllByRecursion (λ (e : K × X). P e.0 e.1) es → (q : K) (x : X) → find R q es ≡ Some x → P q x
  listed_all P [] all q x there = absurd (cc there)
  listed_all P (e ∷ es) all q x there = by (eq_by_cmp R q e.0) refl there (listed_all P es all.1 q x)
    where
      same : (y z : X) → Some y ≡ Some z → y ≡ z
      same y z e = cc e

      by : (b : Bool) → eq_by_cmp R q e.0 ≡ b → cond b (Some e.1) (find R q es) ≡ Some x → (find R q es ≡ Some x → P q x) → P q x
      by true at is later = subst (λ k. P k x) (sym (only q e.0 (tied _ at))) (subst (P e.0) (same e.1 x is) all.0)
      by false at is later = later is

  pub all_entries : (P : K → X → Type 0) (m : FinMap R X) → ((q : K) (x : X) → fin.get m q ≡ Some x → P q x) → AllByRecursion (λ (e : K × X). P e.0 e.1) (fin.entries m)
  all_entries P m h = all_listed P (fin.entries m) (is_true _ (entries_sorted m)) (λ q x there. h q x (get-entries m q ∙ there))

  pub all_moved : (P : K × X → Type 0) (es fs : List (K × X)) → IsPermutation es fs → AllByRecursion P es → AllByRecursion P fs
  all_moved P es fs moved all = recursion_from_All P fs (All-permutation P es fs moved (All-from_recursion P es all))

  carried : (m n : FinMap R X) → IsPermutation (fin.entries m) (fin.entries n) → (q : K) (x : X) → fin.get n q ≡ Some x → fin.get m q ≡ Some x
  carried m n moved q x there =
      listed_all (λ k y. fin.get m k ≡ Some y) (fin.entries n)
      (all_moved (λ (e : K × X). fin.get m e.0 ≡ Some e.1) (fin.entries m) (fin.entries n) moved (all_entries (λ k y. fin.get m k ≡ Some y) m (λ k y is. is)))
      q x (sym (get-entries n q) ∙ there)

  -- maps with the same entries are equal
  pub same_if_moved : (m n : FinMap R X) → IsPermutation (fin.entries m) (fin.entries n) → m ≡ n
  same_if_moved m n moved = same_map total only m n (λ q. by q (fin.get m q) (fin.get n q) refl refl)
    where
      by : (q : K) (o p : Option X) → fin.get m q ≡ o → fin.get n q ≡ p → o ≡ p
      by q o (Some y) at there = sym at ∙ carried m n moved q y there
      by q (Some x) None at there = absurd (cc (sym there ∙ carried n m (IsPermutation-sym _ _ moved) q x at))
      by q None None at there = refl
