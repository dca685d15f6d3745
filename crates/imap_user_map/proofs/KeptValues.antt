-- What is found in a map of which some values are kept.
use Rattle.std.proofs.Common.{◌≡◌, Bool, true, false, cond, ◌&&◌, List, [], ◌∷◌, Some, None, Option, Ordering, Less, Equal, Greater, refl, sym, ap, ◌∙◌, arith}
use Rattle.std.specs.Prelude.{T, option_map, option_and_then, is_some}
use Rattle.std.specs.Ordering.{eq_by_cmp, is_eq, is_lt}
use Rattle.std.specs.List.{filter_map, cons_option}
use Rattle.std.specs.FinMap.{FinMap, get, entries, entries_sorted, find, is_sorted, IsAntisymmetric, get-entries, get-from_sorted, entries-from_sorted}
use Rattle.std.specs.FinMap.Entries.{below_all}
use Rattle.imap_user_map.specs.Finite.{keep, kept_entry}

first : (a b : Bool) → T (a && b) → T a
first true b p = tt
first false b p = p

second : (a b : Bool) → T (a && b) → T b
second true b p = p
second false b p = absurd p

both : (a b : Bool) → T a → T b → T (a && b)
both true b p q = q
both false b p q = p

equal : (r : Ordering) → is_eq r ≡ true → r ≡ Equal
equal Less e = absurd (grind arith)
equal Equal e = refl
equal Greater e = absurd (grind arith)

below_is_not_equal : (r : Ordering) → T (is_lt r) → is_eq r ≡ false
below_is_not_equal Less p = refl
below_is_not_equal Equal p = absurd p
below_is_not_equal Greater p = absurd p

module _ {K X Y : Type 0} (R : K → K → Ordering) (f : K → X → Option Y) where
  below_cons : (x k : K) (o : Option Y) (es : List (K × Y)) → T (is_lt (R x k)) → T (below_all R x es) → T (below_all R x (cons_option (option_map (λ y. (k, y)) o) es))
  below_cons x k None es p h = h
  below_cons x k (Some y) es p h = both _ _ p h

  below_kept : (x : K) (es : List (K × X)) → T (below_all R x es) → T (below_all R x (filter_map (kept_entry f) es))
  below_kept x [] h = tt
  below_kept x (e ∷ es) h = below_cons x e.0 (f e.0 e.1) _ (first _ _ h) (below_kept x es (second _ _ h))

  sorted_cons : (k : K) (o : Option Y) (es : List (K × Y)) → T (below_all R k es) → T (is_sorted R es) → T (is_sorted R (cons_option (option_map (λ y. (k, y)) o) es))
  sorted_cons k None es p h = h
  sorted_cons k (Some y) es p h = both _ _ p h

  sorted_kept : (es : List (K × X)) → T (is_sorted R es) → T (is_sorted R (filter_map (kept_entry f) es))
  sorted_kept [] h = tt
  sorted_kept (e ∷ es) h = sorted_cons e.0 (f e.0 e.1) _ (below_kept e.0 es (first _ _ h)) (sorted_kept es (second _ _ h))

  -- what is kept, in order
  pub entries-keep : (m : FinMap R X) → entries (keep f m) ≡ filter_map (kept_entry f) (entries m)
  unfolding keep
  entries-keep m = entries-from_sorted R (filter_map (kept_entry f) (entries m)) (sorted_kept (entries m) (entries_sorted m))

  -- a key below all others is found in none
  find_below : {Z : Type 0} (q : K) (es : List (K × Z)) → T (below_all R q es) → find R q es ≡ None
  find_below q [] h = refl
  find_below {Z} q (e ∷ es) h = ap (λ b. cond b (Some e.1) (find R q es)) (below_is_not_equal _ (first _ _ h)) ∙ find_below q es (second _ _ h)

  find_cons : (q k : K) (o : Option Y) (es : List (K × Y)) → find R q (cons_option (option_map (λ y. (k, y)) o) es) ≡ cond (eq_by_cmp R q k) (cond (is_some o) o (find R q es)) (find R q es)
  find_cons q k None es = grind arith
  find_cons q k (Some y) es = refl

  module _ (anti : IsAntisymmetric R) where
    hit : (q k : K) (x : X) (es : List (K × X)) → T (below_all R k es) → eq_by_cmp R q k ≡ true → cond (is_some (f k x)) (f k x) (find R q (filter_map (kept_entry f) es)) ≡ f q x
    hit q k x es h e =
        let here : q ≡ k = anti q k (equal _ e) in
        let none : find R q (filter_map (kept_entry f) es) ≡ None = ap (λ z. find R z (filter_map (kept_entry f) es)) here ∙ find_below k (filter_map (kept_entry f) es) (below_kept k es h) in
        ap (λ o. cond (is_some (f k x)) (f k x) o) none ∙ itself (f k x) ∙ ap (λ z. f z x) (sym here)
      where
        itself : (o : Option Y) → cond (is_some o) o None ≡ o
        itself None = refl
        itself (Some y) = refl

    branch : (q k : K) (x : X) (es : List (K × X)) → T (below_all R k es) → find R q (filter_map (kept_entry f) es) ≡ option_and_then (f q) (find R q es) → (b : Bool) → eq_by_cmp R q k ≡ b
        → cond b (cond (is_some (f k x)) (f k x) (find R q (filter_map (kept_entry f) es))) (find R q (filter_map (kept_entry f) es)) ≡ option_and_then (f q) (cond b (Some x) (find R q es))
    branch q k x es h rest true e = hit q k x es h e
    branch q k x es h rest false e = rest

    find_kept : (q : K) (es : List (K × X)) → T (is_sorted R es) → find R q (filter_map (kept_entry f) es) ≡ option_and_then (f q) (find R q es)
    find_kept q [] h = refl
    find_kept q (e ∷ es) h = find_cons q e.0 (f e.0 e.1) _ ∙ branch q e.0 e.1 es (first _ _ h) (find_kept q es (second _ _ h)) _ refl

    pub get-keep : (m : FinMap R X) (q : K) → get (keep f m) q ≡ option_and_then (f q) (get m q)
    unfolding keep
    get-keep m q = get-from_sorted R (filter_map (kept_entry f) (entries m)) q (sorted_kept (entries m) (entries_sorted m)) ∙ find_kept q (entries m) (entries_sorted m) ∙ ap (option_and_then (f q)) (sym (get-entries m q))
