-- What a search finds in a list in order, and what an edit there makes of it.
use Rattle.std.proofs.Common.{◌≡◌, ℕ, zero, suc, ◌<◌, ◌≤◌, List, [], ◌∷◌, ◌++◌, Bool, true, false, cond, not, ◌&&◌, T, ◌⊎◌, inl, inr, length, take, drop, get_or, set, Some, None, Ordering, Less, Equal, Greater, is_lt, is_eq, is_le, is_some, refl, sym, ap, subst, ◌∙◌, arith}
use Rattle.std.specs.Prelude.{insert, remove}
use Rattle.std.proofs.lemmas.Bool.{cases_lt}
use Rattle.std.specs.List.Sorted.{IsPartitionPoint, IsPartitionedBy}
use Rattle.std.specs.Ordering.{ordering_index, ordering_reverse, eq_by_cmp}
use Rattle.std.specs.Cmp.{IsTotalOrder, alike_right}
use Rattle.std.specs.FinMap.Entries.{by_order, put, find, is_sorted, below_all, where_key}
use Rattle.imap_name_map.specs.Cuts.{IsCut, leading, before, up_to}

pub first : (a b : Bool) → T (a && b) → T a
first true b p = tt
first false b p = p

pub second : (a b : Bool) → T (a && b) → T b
second true b p = p
second false b p = absurd p

pub both : (a b : Bool) → T a → T b → T (a && b)
both true b p q = q
both false b p q = p

pub holds : {b : Bool} → b ≡ true → T b
holds e = subst T (sym e) tt

pub is_true : (b : Bool) → T b → b ≡ true
is_true true t = refl
is_true false t = absurd t

pub less : (o : Ordering) → T (is_lt o) → o ≡ Less
less Less p = refl
less Equal p = absurd p
less Greater p = absurd p

pub less_lt : (o : Ordering) → o ≡ Less → T (is_lt o)
less_lt o e = subst (λ r. T (is_lt r)) (sym e) tt

not_back : (r : Ordering) → r ≡ Less → ordering_reverse r ≡ Less → ⊥
not_back Less e f = omega (arith, ap ordering_index f)
not_back Equal e f = omega (arith, ap ordering_index e)
not_back Greater e f = omega (arith, ap ordering_index e)

-- the place at which a test fails first
pub leading_from_point : {X : Type 0} (p : X → Bool) (xs : List X) (i : ℕ) → i ≤ length xs → IsPartitionPoint (λ y. p y ≡ true) (λ y. p y ≡ false) xs i → i ≡ leading p xs
leading_from_point p [] i h point = omega (arith, h)
leading_from_point p (x ∷ xs) zero h point = ap (λ b. cond b (suc (leading p xs)) 0) (sym (point.1 0 x (omega arith) (omega arith)))
leading_from_point p (x ∷ xs) (suc i) h point =
    let rest = leading_from_point p xs i (omega (arith, h)) (λ k d low high. point.0 (suc k) d (omega arith) (omega (arith, high)), λ k d low high. point.1 (suc k) d (omega (arith, low)) (omega (arith, high))) in
    (let e : suc i ≡ suc (leading p xs) = omega (arith, rest) in e) ∙ ap (λ b. cond b (suc (leading p xs)) 0) (sym (point.0 0 x (omega arith) (omega arith)))

module _ {K X : Type 0} (R : K → K → Ordering) where
  all_below : (x : K) (es : List (K × X)) (j : ℕ) (d : K × X) → T (below_all R x es) → j < length es → R x (get_or es j d).0 ≡ Less
  all_below x [] j d h within = absurd (omega (arith, within))
  all_below x (e ∷ es) zero d h within = less _ (first _ _ h)
  all_below x (e ∷ es) (suc j) d h within = all_below x es j d (second _ _ h) (omega (arith, within))

  pub rising : (es : List (K × X)) (i j : ℕ) (d : K × X) → T (is_sorted R es) → i < j → j < length es → R (get_or es i d).0 (get_or es j d).0 ≡ Less
  rising [] i j d h apart within = absurd (omega (arith, within))
  rising (e ∷ es) zero zero d h apart within = absurd (omega (arith, apart))
  rising (e ∷ es) zero (suc j) d h apart within = all_below e.0 es j d (first _ _ h) (omega (arith, within))
  rising (e ∷ es) (suc i) zero d h apart within = absurd (omega (arith, apart))
  rising (e ∷ es) (suc i) (suc j) d h apart within = rising es i j d (second _ _ h) (omega (arith, apart)) (omega (arith, within))

  -- a test that holds of all keys below one of which it holds
  pub partitioned : (p : K → Bool) → ((a b : K) → R a b ≡ Less → p b ≡ true → p a ≡ true) → (es : List (K × X)) → T (is_sorted R es) → IsPartitionedBy (λ e. p e.0) es
  partitioned p down es h i j d le within passes = by (cases_lt i j)
    where
      by : (i < j) ⊎ (j ≤ i) → p (get_or es i d).0 ≡ true
      by (inl lt) = down _ _ (rising es i j d h lt within) passes
      by (inr ge) = let is : j ≡ i = omega (arith, le, ge) in subst (λ n. p (get_or es n d).0 ≡ true) is passes

module _ {K : Type 0} {R : K → K → Ordering} (o : IsTotalOrder R) where
  -- along the order the answers rise
  pub cut_rises : (c : K → Ordering) → IsCut R c → (a b : K) → R a b ≡ Less → ordering_index (c a) ≤ ordering_index (c b)
  cut_rises c cut a b e = by (ordering_index (c a)) (ordering_index (c b)) (λ h. not_back (R a b) e (sym (o.antisymm b a) ∙ cut b a h))
    where
      by : (m n : ℕ) → (n < m → ⊥) → m ≤ n
      by m n apart = omega (arith, apart)

  lt_down : (r s : Ordering) → ordering_index r ≤ ordering_index s → is_lt s ≡ true → is_lt r ≡ true
  lt_down Less s h e = refl
  lt_down Equal Less h e = absurd (omega (arith, h))
  lt_down Equal Equal h e = e
  lt_down Equal Greater h e = e
  lt_down Greater Less h e = absurd (omega (arith, h))
  lt_down Greater Equal h e = absurd (omega (arith, h))
  lt_down Greater Greater h e = e

  le_down : (r s : Ordering) → ordering_index r ≤ ordering_index s → is_le s ≡ true → is_le r ≡ true
  le_down Less s h e = refl
  le_down Equal s h e = refl
  le_down Greater Less h e = absurd (omega (arith, h))
  le_down Greater Equal h e = absurd (omega (arith, h))
  le_down Greater Greater h e = e

  pub partitioned_before : {X : Type 0} (c : K → Ordering) → IsCut R c → (es : List (K × X)) → T (is_sorted R es) → IsPartitionedBy (λ e. is_lt (c e.0)) es
  partitioned_before c cut es h = partitioned R (λ k. is_lt (c k)) (λ a b e passes. lt_down (c a) (c b) (cut_rises c cut a b e) passes) es h

  pub partitioned_up_to : {X : Type 0} (c : K → Ordering) → IsCut R c → (es : List (K × X)) → T (is_sorted R es) → IsPartitionedBy (λ e. is_le (c e.0)) es
  partitioned_up_to c cut es h = partitioned R (λ k. is_le (c k)) (λ a b e passes. le_down (c a) (c b) (cut_rises c cut a b e) passes) es h

  -- to stand before a key, at it or behind it is a cut
  pub key_cut : (k : K) → IsCut R (λ x. R x k)
  key_cut k a b h = by (R a k) refl (R b k) refl h
    where
      by : (r : Ordering) → R a k ≡ r → (s : Ordering) → R b k ≡ s → ordering_index r < ordering_index s → R a b ≡ Less
      by Less p Less q h = absurd (omega (arith, h))
      by Less p Equal q h = alike_right o b k a q ∙ p
      by Less p Greater q h = o.trans a k b p (o.antisymm k b ∙ ap ordering_reverse q)
      by Equal p Less q h = absurd (omega (arith, h))
      by Equal p Equal q h = absurd (omega (arith, h))
      by Equal p Greater q h = o.congr a k b p ∙ o.antisymm k b ∙ ap ordering_reverse q
      by Greater p Less q h = absurd (omega (arith, h))
      by Greater p Equal q h = absurd (omega (arith, h))
      by Greater p Greater q h = absurd (omega (arith, h))

  -- ---- one key, with the place that a search finds

  -- nothing at the place: the key is not there
  module _ {X : Type 0} (k : K) where
    not_None : (x : X) → Some x ≡ None → ⊥
    not_None x e = subst T (ap is_some e) tt

    pub put_new : (v : X) (es : List (K × X)) → find R k es ≡ None → insert es (before (λ x. R x k) es) (k, v) ≡ put R k v es
    put_new v [] none = refl
    put_new v (e ∷ es) none =
        elim (R k e.0) as (λ r. R k e.0 ≡ r → cond (is_eq r) (Some e.1) (find R k es) ≡ None → insert (e ∷ es) (before (λ x. R x k) (e ∷ es)) (k, v) ≡ by_order r ((k, v) ∷ e ∷ es) ((e.0, v) ∷ es) (e ∷ put R k v es)) [
          | Less ↦ λ p q. ap (λ r. insert (e ∷ es) (cond (is_lt r) (suc (before (λ x. R x k) es)) 0) (k, v)) (o.antisymm e.0 k ∙ ap ordering_reverse p)
          | Equal ↦ λ p q. absurd (not_None e.1 q)
          | Greater ↦ λ p q. ap (λ r. insert (e ∷ es) (cond (is_lt r) (suc (before (λ x. R x k) es)) 0) (k, v)) (o.antisymm e.0 k ∙ ap ordering_reverse p) ∙ ap (λ l. e ∷ l) (put_new v es q)
        ] refl none

    -- the key that the place has
    pub find_there : (es : List (K × X)) (d : K × X) → before (λ x. R x k) es < length es → R (get_or es (before (λ x. R x k) es) d).0 k ≡ Equal → find R k es ≡ Some (get_or es (before (λ x. R x k) es) d).1
    find_there [] d within is = absurd (omega (arith, within))
    find_there (e ∷ es) d within is =
        elim (R e.0 k) as (λ r. R e.0 k ≡ r → cond (is_lt r) (suc (before (λ x. R x k) es)) 0 < suc (length es) → R (get_or (e ∷ es) (cond (is_lt r) (suc (before (λ x. R x k) es)) 0) d).0 k ≡ Equal
        → cond (is_eq (R k e.0)) (Some e.1) (find R k es) ≡ Some (get_or (e ∷ es) (cond (is_lt r) (suc (before (λ x. R x k) es)) 0) d).1) [
          | Less ↦ λ p w q. ap (λ r. cond (is_eq r) (Some e.1) (find R k es)) (o.antisymm k e.0 ∙ ap ordering_reverse p) ∙ find_there es d (omega (arith, w)) q
          | Equal ↦ λ p w q. ap (λ r. cond (is_eq r) (Some e.1) (find R k es)) (o.antisymm k e.0 ∙ ap ordering_reverse p)
          | Greater ↦ λ p w q. absurd (omega (arith, ap ordering_index (sym p ∙ q)))
        ] refl within is

    -- it has no other place
    pub before_there : (es : List (K × X)) (d : K × X) (place : ℕ) → T (is_sorted R es) → place < length es → R (get_or es place d).0 k ≡ Equal → place ≡ before (λ x. R x k) es
    before_there [] d place h within is = absurd (omega (arith, within))
    before_there (e ∷ es) d zero h within is = ap (λ r. cond (is_lt r) (suc (before (λ x. R x k) es)) 0) (sym is)
    before_there (e ∷ es) d (suc place) h within is =
        let later : R e.0 (get_or es place d).0 ≡ Less = all_below R e.0 es place d (first _ _ h) (omega (arith, within)) in
        ap suc (before_there es d place (second _ _ h) (omega (arith, within)) is)
        ∙ ap (λ r. cond (is_lt r) (suc (before (λ x. R x k) es)) 0) (sym (sym (alike_right o (get_or es place d).0 k e.0 is) ∙ later))

    none_above : (x : K) (es : List (K × X)) → R k x ≡ Less → T (below_all R x es) → find R k es ≡ None
    none_above x [] p h = refl
    none_above x (e ∷ es) p h = ap (λ r. cond (is_eq r) (Some e.1) (find R k es)) (o.trans k x e.0 p (less _ (first _ _ h))) ∙ none_above x es p (second _ _ h)

    -- another key at the place, or none
    pub find_gap : (es : List (K × X)) (d : K × X) → T (is_sorted R es) → (before (λ x. R x k) es < length es → R (get_or es (before (λ x. R x k) es) d).0 k ≡ Equal → ⊥) → find R k es ≡ None
    find_gap [] d h other = refl
    find_gap (e ∷ es) d h other =
        elim (R e.0 k) as (λ r. R e.0 k ≡ r → (cond (is_lt r) (suc (before (λ x. R x k) es)) 0 < suc (length es) → R (get_or (e ∷ es) (cond (is_lt r) (suc (before (λ x. R x k) es)) 0) d).0 k ≡ Equal → ⊥)
        → cond (is_eq (R k e.0)) (Some e.1) (find R k es) ≡ None) [
          | Less ↦ λ p f. ap (λ r. cond (is_eq r) (Some e.1) (find R k es)) (o.antisymm k e.0 ∙ ap ordering_reverse p) ∙ find_gap es d (second _ _ h) (λ w q. f (omega (arith, w)) q)
          | Equal ↦ λ p f. absurd (f (omega arith) p)
          | Greater ↦ λ p f. ap (λ r. cond (is_eq r) (Some e.1) (find R k es)) (o.antisymm k e.0 ∙ ap ordering_reverse p) ∙ none_above e.0 es (o.antisymm k e.0 ∙ ap ordering_reverse p) (first _ _ h)
        ] refl other

    -- another value in the place
    pub put_there : (v : X) (es : List (K × X)) (d : K × X) → before (λ x. R x k) es < length es → R (get_or es (before (λ x. R x k) es) d).0 k ≡ Equal
        → set es (before (λ x. R x k) es) ((get_or es (before (λ x. R x k) es) d).0, v) ≡ put R k v es
    put_there v [] d within is = absurd (omega (arith, within))
    put_there v (e ∷ es) d within is =
        elim (R e.0 k) as (λ r. R e.0 k ≡ r → cond (is_lt r) (suc (before (λ x. R x k) es)) 0 < suc (length es) → R (get_or (e ∷ es) (cond (is_lt r) (suc (before (λ x. R x k) es)) 0) d).0 k ≡ Equal
        → set (e ∷ es) (cond (is_lt r) (suc (before (λ x. R x k) es)) 0) ((get_or (e ∷ es) (cond (is_lt r) (suc (before (λ x. R x k) es)) 0) d).0, v) ≡ by_order (R k e.0) ((k, v) ∷ e ∷ es) ((e.0, v) ∷ es) (e ∷ put R k v es)) [
          | Less ↦ λ p w q. ap (λ l. e ∷ l) (put_there v es d (omega (arith, w)) q) ∙ ap (λ r. by_order r ((k, v) ∷ e ∷ es) ((e.0, v) ∷ es) (e ∷ put R k v es)) (sym (o.antisymm k e.0 ∙ ap ordering_reverse p))
          | Equal ↦ λ p w q. ap (λ r. by_order r ((k, v) ∷ e ∷ es) ((e.0, v) ∷ es) (e ∷ put R k v es)) (sym (o.antisymm k e.0 ∙ ap ordering_reverse p))
          | Greater ↦ λ p w q. absurd (omega (arith, ap ordering_index (sym p ∙ q)))
        ] refl within is

    abbrev others : List (K × X) → List (K × X)
    others = where_key R (λ x. not (eq_by_cmp R k x))

    -- no entry has the key
    pub others_all : (es : List (K × X)) → find R k es ≡ None → others es ≡ es
    others_all [] none = refl
    others_all (e ∷ es) none =
        elim (eq_by_cmp R k e.0) as (λ b. cond b (Some e.1) (find R k es) ≡ None → cond (not b) (e ∷ others es) (others es) ≡ e ∷ es) [
          | true ↦ λ q. absurd (not_None e.1 q)
          | false ↦ λ q. ap (λ l. e ∷ l) (others_all es q)
        ] none

    none_tied : (x : K) (es : List (K × X)) → R k x ≡ Equal → T (below_all R x es) → find R k es ≡ None
    none_tied x [] p h = refl
    none_tied x (e ∷ es) p h = ap (λ r. cond (is_eq r) (Some e.1) (find R k es)) (o.congr k x e.0 p ∙ less _ (first _ _ h)) ∙ none_tied x es p (second _ _ h)

    -- the entry taken out
    pub removed : (es : List (K × X)) (d : K × X) → T (is_sorted R es) → before (λ x. R x k) es < length es → R (get_or es (before (λ x. R x k) es) d).0 k ≡ Equal → remove es (before (λ x. R x k) es) ≡ others es
    removed [] d h within is = absurd (omega (arith, within))
    removed (e ∷ es) d h within is =
        elim (R e.0 k) as (λ r. R e.0 k ≡ r → cond (is_lt r) (suc (before (λ x. R x k) es)) 0 < suc (length es) → R (get_or (e ∷ es) (cond (is_lt r) (suc (before (λ x. R x k) es)) 0) d).0 k ≡ Equal
        → remove (e ∷ es) (cond (is_lt r) (suc (before (λ x. R x k) es)) 0) ≡ cond (not (is_eq (R k e.0))) (e ∷ others es) (others es)) [
          | Less ↦ λ p w q. ap (λ l. e ∷ l) (removed es d (second _ _ h) (omega (arith, w)) q) ∙ ap (λ r. cond (not (is_eq r)) (e ∷ others es) (others es)) (sym (o.antisymm k e.0 ∙ ap ordering_reverse p))
          | Equal ↦ λ p w q. sym (others_all es (none_tied e.0 es (o.antisymm k e.0 ∙ ap ordering_reverse p) (first _ _ h))) ∙ ap (λ r. cond (not (is_eq r)) (e ∷ others es) (others es)) (sym (o.antisymm k e.0 ∙ ap ordering_reverse p))
          | Greater ↦ λ p w q. absurd (omega (arith, ap ordering_index (sym p ∙ q)))
        ] refl within is

-- ---- runs

not_less : (r s : Ordering) → ordering_index r ≤ ordering_index s → 1 ≤ ordering_index r → is_lt s ≡ false
not_less r Less h g = absurd (omega (arith, h, g))
not_less r Equal h g = refl
not_less r Greater h g = refl

greater : (r s : Ordering) → ordering_index r ≤ ordering_index s → 2 ≤ ordering_index r → s ≡ Greater
greater r Less h g = absurd (omega (arith, h, g))
greater r Equal h g = absurd (omega (arith, h, g))
greater r Greater h g = refl

module _ {K X : Type 0} {R : K → K → Ordering} (o : IsTotalOrder R) (c : K → Ordering) (cut : IsCut R c) where
  abbrev among : List (K × X) → List (K × X)
  among = where_key R (λ k. is_eq (c k))

  abbrev apart : List (K × X) → List (K × X)
  apart = where_key R (λ k. not (is_eq (c k)))

  -- no entry of a list above a key in the run stands before the run
  none_before : (x : K) (es : List (K × X)) → 1 ≤ ordering_index (c x) → T (below_all R x es) → before c es ≡ 0
  none_before x [] g h = refl
  none_before x (e ∷ es) g h = ap (λ b. cond b (suc (before c es)) 0) (not_less (c x) (c e.0) (cut_rises o c cut x e.0 (less _ (first _ _ h))) g)

  none_up_to : (x : K) (es : List (K × X)) → c x ≡ Greater → T (below_all R x es) → up_to c es ≡ 0
  none_up_to x [] g h = refl
  none_up_to x (e ∷ es) g h = ap (λ r. cond (is_le r) (suc (up_to c es)) 0) (greater (c x) (c e.0) (cut_rises o c cut x e.0 (less _ (first _ _ h))) (let i = ap ordering_index g in omega (arith, i)))

  none_among : (x : K) (es : List (K × X)) → c x ≡ Greater → T (below_all R x es) → among es ≡ []
  none_among x [] g h = refl
  none_among x (e ∷ es) g h =
      ap (λ r. cond (is_eq r) (e ∷ among es) (among es)) (greater (c x) (c e.0) (cut_rises o c cut x e.0 (less _ (first _ _ h))) (let i = ap ordering_index g in omega (arith, i)))
      ∙ none_among x es g (second _ _ h)

  all_apart : (x : K) (es : List (K × X)) → c x ≡ Greater → T (below_all R x es) → apart es ≡ es
  all_apart x [] g h = refl
  all_apart x (e ∷ es) g h =
      ap (λ r. cond (not (is_eq r)) (e ∷ apart es) (apart es)) (greater (c x) (c e.0) (cut_rises o c cut x e.0 (less _ (first _ _ h))) (let i = ap ordering_index g in omega (arith, i)))
      ∙ ap (λ l. e ∷ l) (all_apart x es g (second _ _ h))

  pub before-le-up_to : (es : List (K × X)) → before c es ≤ up_to c es
  before-le-up_to [] = omega arith
  before-le-up_to (e ∷ es) =
      elim (c e.0) as (λ r. cond (is_lt r) (suc (before c es)) 0 ≤ cond (is_le r) (suc (up_to c es)) 0) [
        | Less ↦ let rest = before-le-up_to es in omega (arith, rest)
        | Equal ↦ omega arith
        | Greater ↦ omega arith
      ]

  -- between the two places stand just the entries of the run
  pub run_is : (es : List (K × X)) → T (is_sorted R es) → drop (before c es) (take (up_to c es) es) ≡ among es
  run_is [] h = refl
  run_is (e ∷ es) h =
      elim (c e.0) as (λ r. c e.0 ≡ r → drop (cond (is_lt r) (suc (before c es)) 0) (take (cond (is_le r) (suc (up_to c es)) 0) (e ∷ es)) ≡ cond (is_eq r) (e ∷ among es) (among es)) [
        | Less ↦ λ p. run_is es (second _ _ h)
        | Equal ↦ λ p. ap (λ l. e ∷ l) (ap (λ n. drop n (take (up_to c es) es)) (sym (none_before e.0 es (let i = ap ordering_index p in omega (arith, i)) (first _ _ h))) ∙ run_is es (second _ _ h))
        | Greater ↦ λ p. sym (none_among e.0 es p (first _ _ h))
      ] refl

  -- and round them just the others
  pub rest_is : (es : List (K × X)) → T (is_sorted R es) → take (before c es) es ++ drop (up_to c es) es ≡ apart es
  rest_is [] h = refl
  rest_is (e ∷ es) h =
      elim (c e.0) as (λ r. c e.0 ≡ r → take (cond (is_lt r) (suc (before c es)) 0) (e ∷ es) ++ drop (cond (is_le r) (suc (up_to c es)) 0) (e ∷ es) ≡ cond (not (is_eq r)) (e ∷ apart es) (apart es)) [
        | Less ↦ λ p. ap (λ l. e ∷ l) (rest_is es (second _ _ h))
        | Equal ↦ λ p. ap (λ n. take n es ++ drop (up_to c es) es) (sym (none_before e.0 es (let i = ap ordering_index p in omega (arith, i)) (first _ _ h))) ∙ rest_is es (second _ _ h)
        | Greater ↦ λ p. ap (λ l. e ∷ l) (sym (all_apart e.0 es p (first _ _ h)))
      ] refl
