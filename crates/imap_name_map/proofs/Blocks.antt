-- A run of entries that is put, as a block, among others.
use Rattle.std.proofs.Common.{◌≡◌, suc, ◌<◌, List, [], ◌∷◌, ◌++◌, Bool, true, false, cond, T, take, drop, Some, None, Ordering, Less, Equal, Greater, is_lt, is_eq, refl, sym, ap, subst, ◌∙◌, arith}
use Rattle.std.specs.Ordering.{ordering_index, ordering_reverse, eq_by_cmp}
use Rattle.std.specs.Cmp.{IsTotalOrder}
use Rattle.std.specs.FinMap.Entries.{find, is_sorted, below_all}
use Rattle.imap_name_map.specs.Cuts.{IsCut, before}
use Rattle.imap_name_map.specs.Renaming.{with_run}
use Rattle.imap_name_map.proofs.Cuts.{first, second, both, less, less_lt}

eq_equal : (r : Ordering) → T (is_eq r) → r ≡ Equal
eq_equal Less p = absurd p
eq_equal Equal p = refl
eq_equal Greater p = absurd p

module _ {K : Type 0} (R : K → K → Ordering) (o : IsTotalOrder R) (c : K → Ordering) (cut : IsCut R c) where
  -- a key that ties with another stands where that does
  in_alike : (q k : K) → T (eq_by_cmp R q k) → c q ≡ c k
  in_alike q k t = by (c q) (c k) (λ h. tied_not (R q k) t (cut q k h)) (λ h. tied_not' (R k q) (λ i. R k q) (o.antisymm k q) t (cut k q h))
    where
      tied_not : (r : Ordering) → T (is_eq r) → r ≡ Less → ⊥
      tied_not Less t e = t
      tied_not Equal t e = let i = ap ordering_index e in omega (arith, i)
      tied_not Greater t e = t

      tied_not' : (s : Ordering) → s ≡ s → s ≡ ordering_reverse (R q k) → T (is_eq (R q k)) → s ≡ Less → ⊥
      tied_not' s z e t l = rev (R q k) t (sym e ∙ l)
        where
          rev : (r : Ordering) → T (is_eq r) → ordering_reverse r ≡ Less → ⊥
          rev Less t e = t
          rev Equal t e = let i = ap ordering_index e in omega (arith, i)
          rev Greater t e = t

      by : (r s : Ordering) → (ordering_index r < ordering_index s → ⊥) → (ordering_index s < ordering_index r → ⊥) → r ≡ s
      by Less Less f g = refl
      by Less Equal f g = absurd (f (omega arith))
      by Less Greater f g = absurd (f (omega arith))
      by Equal Less f g = absurd (g (omega arith))
      by Equal Equal f g = refl
      by Equal Greater f g = absurd (f (omega arith))
      by Greater Less f g = absurd (g (omega arith))
      by Greater Equal f g = absurd (g (omega arith))
      by Greater Greater f g = refl

  pub not_at : (q k : K) → (c q ≡ c k → ⊥) → eq_by_cmp R q k ≡ false
  not_at q k apart = by (eq_by_cmp R q k) refl
    where
      by : (b : Bool) → eq_by_cmp R q k ≡ b → eq_by_cmp R q k ≡ false
      by true e = absurd (apart (in_alike q k (subst T (sym e) tt)))
      by false e = e

module _ {K X : Type 0} (R : K → K → Ordering) (o : IsTotalOrder R) (c : K → Ordering) (cut : IsCut R c) where
  -- all keys stand in the run, and none does
  abbrev pub AllIn : List (K × X) → Type 0
  AllIn [] = Unit {0}
  AllIn (e ∷ es) = (c e.0 ≡ Equal) × AllIn es

  abbrev pub NoneIn : List (K × X) → Type 0
  NoneIn [] = Unit {0}
  NoneIn (e ∷ es) = (is_eq (c e.0) ≡ false) × NoneIn es

  -- in what follows r is a run, and es are others in order
  below_append : (x : K) (xs ys : List (K × X)) → T (below_all R x xs) → T (below_all R x ys) → T (below_all R x (xs ++ ys))
  below_append x [] ys g h = h
  below_append x (e ∷ xs) ys g h = both _ _ (first _ _ g) (below_append x xs ys (second _ _ g) h)

  -- what stands before the run is below it
  below_run : (x : K) (r : List (K × X)) → c x ≡ Less → AllIn r → T (below_all R x r)
  below_run x [] p all = tt
  below_run x (e ∷ r) p all =
      let i = ap ordering_index p in let j = ap ordering_index all.0 in
      both _ _ (less_lt _ (cut x e.0 (omega (arith, i, j)))) (below_run x r p all.1)

  below_later : (x y : K) (es : List (K × X)) → R x y ≡ Less → T (below_all R y es) → T (below_all R x es)
  below_later x y [] p h = tt
  below_later x y (e ∷ es) p h = both _ _ (less_lt _ (o.trans x y e.0 p (less _ (first _ _ h)))) (below_later x y es p (second _ _ h))

  -- the run, and behind it others
  run_sorted : (r : List (K × X)) (e : K × X) (es : List (K × X)) → T (is_sorted R r) → AllIn r → c e.0 ≡ Greater → T (is_sorted R (e ∷ es)) → T (is_sorted R (r ++ e ∷ es))
  run_sorted [] e es s all p h = h
  run_sorted (f ∷ r) e es s all p h =
      let i = ap ordering_index p in let j = ap ordering_index all.0 in
      let lt : R f.0 e.0 ≡ Less = cut f.0 e.0 (omega (arith, i, j)) in
      both _ _ (below_append f.0 r (e ∷ es) (first _ _ s) (both _ _ (less_lt _ lt) (below_later f.0 e.0 es lt (first _ _ h)))) (run_sorted r e es (second _ _ s) all.1 p h)

  append_none : (r : List (K × X)) → r ++ [] ≡ r
  append_none [] = refl
  append_none (e ∷ r) = ap (λ l. e ∷ l) (append_none r)

  below_with : (x : K) (r es : List (K × X)) → c x ≡ Less → AllIn r → T (below_all R x es) → T (below_all R x (with_run c r es))
  below_with x r [] p all h = subst (λ l. T (below_all R x l)) (sym (append_none r)) (below_run x r p all)
  below_with x r (e ∷ es) p all h =
      elim (is_lt (c e.0)) as (λ b. T (below_all R x (take (cond b (suc (before c es)) 0) (e ∷ es) ++ r ++ drop (cond b (suc (before c es)) 0) (e ∷ es)))) [
        | true ↦ both _ _ (first _ _ h) (below_with x r es p all (second _ _ h))
        | false ↦ below_append x r (e ∷ es) (below_run x r p all) h
      ]

  pub with_run_sorted : (r es : List (K × X)) → T (is_sorted R r) → AllIn r → T (is_sorted R es) → NoneIn es → T (is_sorted R (with_run c r es))
  with_run_sorted r [] s all h apart = subst (λ l. T (is_sorted R l)) (sym (append_none r)) s
  with_run_sorted r (e ∷ es) s all h apart =
      elim (c e.0) as (λ q. c e.0 ≡ q → is_eq q ≡ false → T (is_sorted R (take (cond (is_lt q) (suc (before c es)) 0) (e ∷ es) ++ r ++ drop (cond (is_lt q) (suc (before c es)) 0) (e ∷ es)))) [
        | Less ↦ λ p f. both _ _ (below_with e.0 r es p all (first _ _ h)) (with_run_sorted r es s all (second _ _ h) apart.1)
        | Equal ↦ λ p f. absurd (cc)
        | Greater ↦ λ p f. run_sorted r e es s all p h
      ] refl apart.0

  -- ---- what is found there

  find_append_none : (q : K) (xs ys : List (K × X)) → find R q xs ≡ None → find R q (xs ++ ys) ≡ find R q ys
  find_append_none q [] ys h = refl
  find_append_none q (e ∷ xs) ys h =
      elim (eq_by_cmp R q e.0) as (λ b. cond b (Some e.1) (find R q xs) ≡ None → cond b (Some e.1) (find R q (xs ++ ys)) ≡ find R q ys) [
        | true ↦ λ p. absurd (cc)
        | false ↦ λ p. find_append_none q xs ys p
      ] h

  -- a key of the run isn't among others, nor another in the run
  none_in : (q : K) (es : List (K × X)) → c q ≡ Equal → NoneIn es → find R q es ≡ None
  none_in q [] p h = refl
  none_in q (e ∷ es) p h =
      ap (λ b. cond b (Some e.1) (find R q es)) (not_at R o c cut q e.0 (λ s. let f : is_eq (c e.0) ≡ true = ap is_eq (sym s ∙ p) in let g = sym f ∙ h.0 in absurd (cc)))
      ∙ none_in q es p h.1

  none_out : (q : K) (r : List (K × X)) → is_eq (c q) ≡ false → AllIn r → find R q r ≡ None
  none_out q [] p all = refl
  none_out q (e ∷ r) p all =
      ap (λ b. cond b (Some e.1) (find R q r)) (not_at R o c cut q e.0 (λ s. let f : is_eq (c q) ≡ true = ap is_eq (s ∙ all.0) in let g = sym f ∙ p in absurd (cc)))
      ∙ none_out q r p all.1

  find_append_in : (q : K) (r es : List (K × X)) → find R q es ≡ None → find R q (r ++ es) ≡ find R q r
  find_append_in q [] es h = h
  find_append_in q (e ∷ r) es h = ap (cond (eq_by_cmp R q e.0) (Some e.1)) (find_append_in q r es h)

  pub find_with_run : (q : K) (r es : List (K × X)) → AllIn r → NoneIn es → find R q (with_run c r es) ≡ cond (is_eq (c q)) (find R q r) (find R q es)
  find_with_run q r es all apart =
      elim (is_eq (c q)) as (λ b. is_eq (c q) ≡ b → find R q (with_run c r es) ≡ cond b (find R q r) (find R q es)) [
        | true ↦ λ p. inside es apart (eq_equal _ (subst T (sym p) tt))
        | false ↦ λ p. outside es p
      ] refl
    where
      inside : (es : List (K × X)) → NoneIn es → c q ≡ Equal → find R q (with_run c r es) ≡ find R q r
      inside [] h p = ap (find R q) (append_none r)
      inside (e ∷ es) h p =
          let miss : eq_by_cmp R q e.0 ≡ false = not_at R o c cut q e.0 (λ s. let f : is_eq (c e.0) ≡ true = ap is_eq (sym s ∙ p) in let g = sym f ∙ h.0 in absurd (cc)) in
          elim (is_lt (c e.0)) as (λ b. find R q (take (cond b (suc (before c es)) 0) (e ∷ es) ++ r ++ drop (cond b (suc (before c es)) 0) (e ∷ es)) ≡ find R q r) [
            | true ↦ ap (λ b. cond b (Some e.1) (find R q (with_run c r es))) miss ∙ inside es h.1 p
            | false ↦ find_append_in q r (e ∷ es) (none_in q (e ∷ es) p h)
          ]

      outside : (es : List (K × X)) → is_eq (c q) ≡ false → find R q (with_run c r es) ≡ find R q es
      outside [] p = ap (find R q) (append_none r) ∙ none_out q r p all
      outside (e ∷ es) p =
          elim (is_lt (c e.0)) as (λ b. find R q (take (cond b (suc (before c es)) 0) (e ∷ es) ++ r ++ drop (cond b (suc (before c es)) 0) (e ∷ es)) ≡ find R q (e ∷ es)) [
            | true ↦ ap (cond (eq_by_cmp R q e.0) (Some e.1)) (outside es p)
            | false ↦ find_append_none q r (e ∷ es) (none_out q r p all)
          ]
