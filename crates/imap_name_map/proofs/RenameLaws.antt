-- A run of entries moves, under new names, to another place of the order.
use Rattle.std.proofs.Common.{◌≡◌, ℕ, ◌-◌, ◌≤◌, List, [], ◌∷◌, ◌++◌, Bool, true, false, cond, not, T, IsTrue, Some, None, Option, length, take, drop, map, Equal, is_lt, is_eq, refl, sym, ap, subst, ◌∙◌, arith, append_assoc}
use Rattle.std.proofs.lemmas.List.{take_at, drop_at, take-append-le, length-append, length-map, length-drop, length-take-le}
use Rattle.std.specs.Ordering.{eq_by_cmp}
use Rattle.std.specs.FinMap as fin
use Rattle.std.specs.FinMap.{same_map, get-from_entries}
use Rattle.std.specs.FinMap.Entries.{find, is_sorted, below_all}
use Rattle.imap_names.specs.Name.{Name}
use Rattle.imap_names.specs.Order.{Names, name_cmp, run_cmp, is_within, moved}
use Rattle.imap_names.proofs.OrderLaws.{name_total, name_antisymmetric, tied, run_apart, moved_cmp, moved_within}
use Rattle.imap_name_map.specs.Cuts.{before, up_to}
use Rattle.imap_name_map.specs.Rows.{entries_within}
use Rattle.imap_name_map.specs.Renaming.{entries_apart, moved_run, moved_entry, with_names, with_run, renamed}
use Rattle.imap_name_map.proofs.Cuts.{first, second, both, holds, is_true, run_is, rest_is, before-le-up_to}
use Rattle.imap_name_map.proofs.Blocks.{AllIn, NoneIn, with_run_sorted, find_with_run, not_at}
use Rattle.imap_name_map.proofs.Maps.{map_of, get_of, entries_of, sorted_where}

in_run : {A : Type 0} (w b : Bool) (x y z : A) → (w ≡ false → b ≡ false) → cond b x (cond w y z) ≡ cond w (cond b x y) z
in_run true b x y z h = refl
in_run false b x y z h = ap (λ t. cond t x z) (h refl)

out_of_run : {A : Type 0} (w b : Bool) (x y z : A) → (w ≡ true → b ≡ false) → cond b x (cond w y z) ≡ cond w y (cond b x z)
out_of_run true b x y z h = ap (λ t. cond t x y) (h refl)
out_of_run false b x y z h = refl

module _ {X : Type 0} where
  -- ---- the steps of the code

  pub put_back : (es new : List (Name × X)) (top : Name) (start end : ℕ) → IsTrue (is_sorted name_cmp es) → start ≡ before (λ x. run_cmp x top) es → end ≡ up_to (λ x. run_cmp x top) es
      → new ≡ take start es ++ (drop end es ++ drop start (take end es)) → new ≡ entries_apart top es ++ entries_within top es
  put_back es new top start end h is is' made =
      made ∙ (λ i. take (is i) es ++ (drop (is' i) es ++ drop (is i) (take (is' i) es)))
      ∙ sym (append_assoc (take (before (λ x. run_cmp x top) es) es) (drop (up_to (λ x. run_cmp x top) es) es) (drop (before (λ x. run_cmp x top) es) (take (up_to (λ x. run_cmp x top) es) es)))
      ∙ (λ i. rest_is name_total (λ x. run_cmp x top) (run_apart top) es (holds h) i ++ run_is name_total (λ x. run_cmp x top) (run_apart top) es (holds h) i)

  pub run_length : (es : List (Name × X)) (top : Name) (start end : ℕ) → IsTrue (is_sorted name_cmp es) → start ≡ before (λ x. run_cmp x top) es → end ≡ up_to (λ x. run_cmp x top) es → end ≤ length es → end - start ≡ length (entries_within top es)
  run_length es top start end h is is' within =
      let e = length-drop start (take end es) in
      let f = length-take-le end es within in
      let g : length (drop start (take end es)) ≡ end - start = e ∙ ap (λ n. n - start) f in
      sym g ∙ ap length ((λ i. drop (is i) (take (is' i) es)) ∙ run_is name_total (λ x. run_cmp x top) (run_apart top) es (holds h))

  pub run_order' : (es : List (Name × X)) (top : Name) (start end : ℕ) → start ≡ before (λ x. run_cmp x top) es → end ≡ up_to (λ x. run_cmp x top) es → start ≤ end
  run_order' es top start end is is' = let h = before-le-up_to name_total (λ x. run_cmp x top) (run_apart top) es in omega (arith, h, is, is')

  with_names_run : (old new : Name) (es : List (Name × X)) → with_names (map (λ e. moved old new e.0) es) es ≡ map (λ e. (moved old new e.0, e.1)) es
  with_names_run old new [] = refl
  with_names_run old new (e ∷ es) = ap (λ l. (moved old new e.0, e.1) ∷ l) (with_names_run old new es)

  -- the run at the end, under its new names
  pub renamed_back : (es back named : List (Name × X)) (names : List Name) (old new : Name) (place : ℕ) → back ≡ entries_apart old es ++ entries_within old es → names ≡ map (λ e. moved old new e.0) (entries_within old es) → place ≡ length (entries_apart old es)
      → named ≡ take place back ++ with_names names (drop place back) → named ≡ entries_apart old es ++ moved_run old new es
  renamed_back es back named names old new place is are at made =
      made ∙ (λ i. take place (is i) ++ with_names (are i) (drop place (is i)))
      ∙ (λ i. take_at (entries_apart old es) (entries_within old es) place (sym at) i ++ with_names (map (λ e. moved old new e.0) (entries_within old es)) (drop_at (entries_apart old es) (entries_within old es) place (sym at) i))
      ∙ ap (λ l. entries_apart old es ++ l) (with_names_run old new (entries_within old es))

  pub turned_in : (named made rest r : List (Name × X)) (new : Name) (place count : ℕ) → named ≡ rest ++ r → count ≡ length r → place ≡ before (λ x. run_cmp x new) rest → place ≤ length rest
      → made ≡ take place named ++ (drop (length named - count) named ++ drop place (take (length named - count) named)) → made ≡ with_run (λ x. run_cmp x new) r rest
  turned_in named made rest r new place count is n at within e =
      let size : length rest ≡ length named - count = (let l = ap length is ∙ length-append rest r in omega (arith, l, n)) in
      e ∙ (λ i. take place (is i) ++ (drop (length named - count) (is i) ++ drop place (take (length named - count) (is i))))
      ∙ (λ i. take-append-le place rest r within i ++ (drop_at rest r (length named - count) size i ++ drop place (take_at rest r (length named - count) size i)))
      ∙ sym (append_assoc (take place rest) r (drop place rest))
      ∙ ap (λ p. take p rest ++ r ++ drop p rest) at

  pub others_length : (es back : List (Name × X)) (old : Name) (count : ℕ) → back ≡ entries_apart old es ++ entries_within old es → count ≡ length (entries_within old es) → length back - count ≡ length (entries_apart old es)
  others_length es back old count is n = let l = ap length is ∙ length-append (entries_apart old es) (entries_within old es) in omega (arith, l, n)

  named_is : (es back named : List (Name × X)) (names : List Name) (old new : Name) (count : ℕ) → back ≡ entries_apart old es ++ entries_within old es → count ≡ length (entries_within old es) → names ≡ map (λ e. moved old new e.0) (entries_within old es)
      → named ≡ take (length back - count) back ++ with_names names (drop (length back - count) back) → named ≡ entries_apart old es ++ moved_run old new es
  named_is es back named names old new count is n are made = renamed_back es back named names old new (length back - count) is are (others_length es back old count is n) made

  front_is : (es back named : List (Name × X)) (names : List Name) (old new : Name) (count : ℕ) → back ≡ entries_apart old es ++ entries_within old es → count ≡ length (entries_within old es) → names ≡ map (λ e. moved old new e.0) (entries_within old es)
      → named ≡ take (length back - count) back ++ with_names names (drop (length back - count) back) → take (length back - count) named ≡ entries_apart old es
  front_is es back named names old new count is n are made =
      ap (take (length back - count)) (named_is es back named names old new count is n are made) ∙ take_at (entries_apart old es) (moved_run old new es) _ (sym (others_length es back old count is n))

  pub sorted_front : (es back named : List (Name × X)) (names : List Name) (old new : Name) (count : ℕ) → IsTrue (is_sorted name_cmp es) → back ≡ entries_apart old es ++ entries_within old es → count ≡ length (entries_within old es) → names ≡ map (λ e. moved old new e.0) (entries_within old es)
      → named ≡ take (length back - count) back ++ with_names names (drop (length back - count) back) → IsTrue (is_sorted name_cmp (take (length back - count) named))
  sorted_front es back named names old new count h is n are made =
      subst (λ l. IsTrue (is_sorted name_cmp l)) (sym (front_is es back named names old new count is n are made)) (sorted_where (λ k. not (is_within old k)) es h)

  pub moved_all : (es back named made : List (Name × X)) (names : List Name) (old new : Name) (count place : ℕ) → back ≡ entries_apart old es ++ entries_within old es → count ≡ length (entries_within old es) → names ≡ map (λ e. moved old new e.0) (entries_within old es)
      → named ≡ take (length back - count) back ++ with_names names (drop (length back - count) back)
      → place ≡ before (λ x. run_cmp x new) (take (length back - count) named) → place ≤ length (take (length back - count) named)
      → made ≡ take place named ++ (drop (length named - count) named ++ drop place (take (length named - count) named))
      → made ≡ with_run (λ x. run_cmp x new) (moved_run old new es) (entries_apart old es)
  moved_all es back named made names old new count place is n are e at within last =
      let front = front_is es back named names old new count is n are e in
      turned_in named made (entries_apart old es) (moved_run old new es) new place count (named_is es back named names old new count is n are e) (n ∙ sym (length-map (entries_within old es) (λ e. (moved old new e.0, e.1))))
      (at ∙ ap (before (λ x. run_cmp x new)) front) (subst (λ l. place ≤ length l) front within) last

  -- ---- what is found there

  all_moved : (old new : Name) (es : List (Name × X)) → AllIn name_cmp name_total (λ x. run_cmp x new) (run_apart new) (moved_run old new es)
  all_moved old new [] = tt
  all_moved old new (e ∷ es) =
      elim (is_within old e.0) as (λ b. is_within old e.0 ≡ b → AllIn name_cmp name_total (λ x. run_cmp x new) (run_apart new) (map (λ e. (moved old new e.0, e.1)) (cond b (e ∷ entries_within old es) (entries_within old es)))) [
        | true ↦ λ p. (moved_within old new e.0 (tied (run_cmp e.0 old) p), all_moved old new es)
        | false ↦ λ p. all_moved old new es
      ] refl

  nothing : (new : Name) (e : Name × X) (es : List (Name × X)) → entries_within new (e ∷ es) ≡ [] → (is_within new e.0 ≡ false) × (entries_within new es ≡ [])
  nothing new e es h =
      elim (is_within new e.0) as (λ b. cond b (e ∷ entries_within new es) (entries_within new es) ≡ [] → (b ≡ false) × (entries_within new es ≡ [])) [
        | true ↦ λ p. absurd (cc)
        | false ↦ λ p. (refl, p)
      ] h

  none_new : (old new : Name) (es : List (Name × X)) → entries_within new es ≡ [] → NoneIn name_cmp name_total (λ x. run_cmp x new) (run_apart new) (entries_apart old es)
  none_new old new [] h = tt
  none_new old new (e ∷ es) h =
      let (here, later) = nothing new e es h in
      elim (is_within old e.0) as (λ b. NoneIn name_cmp name_total (λ x. run_cmp x new) (run_apart new) (cond (not b) (e ∷ entries_apart old es) (entries_apart old es))) [
        | true ↦ none_new old new es later
        | false ↦ (here, none_new old new es later)
      ]

  -- names that move stay in order
  below_moved : (old new x : Name) (es : List (Name × X)) → run_cmp x old ≡ Equal → T (below_all name_cmp x es) → T (below_all name_cmp (moved old new x) (moved_run old new es))
  below_moved old new x [] p h = tt
  below_moved old new x (e ∷ es) p h =
      elim (is_within old e.0) as (λ b. is_within old e.0 ≡ b → T (below_all name_cmp (moved old new x) (map (λ e. (moved old new e.0, e.1)) (cond b (e ∷ entries_within old es) (entries_within old es))))) [
        | true ↦ λ q. both _ _ (subst (λ r. T (is_lt r)) (sym (moved_cmp old new x e.0 p (tied (run_cmp e.0 old) q))) (first _ _ h)) (below_moved old new x es p (second _ _ h))
        | false ↦ λ q. below_moved old new x es p (second _ _ h)
      ] refl

  sorted_moved : (old new : Name) (es : List (Name × X)) → T (is_sorted name_cmp es) → T (is_sorted name_cmp (moved_run old new es))
  sorted_moved old new [] h = tt
  sorted_moved old new (e ∷ es) h =
      elim (is_within old e.0) as (λ b. is_within old e.0 ≡ b → T (is_sorted name_cmp (map (λ e. (moved old new e.0, e.1)) (cond b (e ∷ entries_within old es) (entries_within old es))))) [
        | true ↦ λ q. both _ _ (below_moved old new e.0 es (tied (run_cmp e.0 old) q) (first _ _ h)) (sorted_moved old new es (second _ _ h))
        | false ↦ λ q. sorted_moved old new es (second _ _ h)
      ] refl

  -- the entries under their names afterwards, in the order that they had
  pub find_moved : (old new q : Name) (es : List (Name × X)) → entries_within new es ≡ [] → find name_cmp q (map (moved_entry old new) es) ≡ cond (is_within new q) (find name_cmp q (moved_run old new es)) (find name_cmp q (entries_apart old es))
  find_moved old new q [] h = elim (is_within new q) as (λ b. ◌≡◌ {A = Option X} None (cond b None None)) [ true ↦ refl | false ↦ refl ]
  find_moved old new q (e ∷ es) h =
      let (here, later) = nothing new e es h in
      let rest = find_moved old new q es later in
      elim (is_within old e.0) as (λ b. is_within old e.0 ≡ b → find name_cmp q (cond b (moved old new e.0, e.1) e ∷ map (moved_entry old new) es)
      ≡ cond (is_within new q) (find name_cmp q (map (λ e. (moved old new e.0, e.1)) (cond b (e ∷ entries_within old es) (entries_within old es)))) (find name_cmp q (cond (not b) (e ∷ entries_apart old es) (entries_apart old es)))) [
        | true ↦ λ p. ap (cond (eq_by_cmp name_cmp q (moved old new e.0)) (Some e.1)) rest
            ∙ in_run (is_within new q) (eq_by_cmp name_cmp q (moved old new e.0)) (Some e.1) _ _ (λ out. not_at name_cmp name_total (λ x. run_cmp x new) (run_apart new) q (moved old new e.0) (λ s. let f = ap is_eq (s ∙ moved_within old new e.0 (tied (run_cmp e.0 old) p)) in let g = sym f ∙ out in absurd (cc)))
        | false ↦ λ p. ap (cond (eq_by_cmp name_cmp q e.0) (Some e.1)) rest
            ∙ out_of_run (is_within new q) (eq_by_cmp name_cmp q e.0) (Some e.1) _ _ (λ in_. not_at name_cmp name_total (λ x. run_cmp x new) (run_apart new) q e.0 (λ s. let f = ap is_eq (sym s) ∙ in_ in let g = sym f ∙ here in absurd (cc)))
      ] refl

  -- ---- the whole

  pub move_sorted : (es made : List (Name × X)) (old new : Name) → IsTrue (is_sorted name_cmp es) → entries_within new es ≡ [] → made ≡ with_run (λ x. run_cmp x new) (moved_run old new es) (entries_apart old es) → IsTrue (is_sorted name_cmp made)
  move_sorted es made old new h free is =
      subst (λ l. IsTrue (is_sorted name_cmp l)) (sym is)
      (is_true _ (with_run_sorted name_cmp name_total (λ x. run_cmp x new) (run_apart new) (moved_run old new es) (entries_apart old es) (sorted_moved old new es (holds h)) (all_moved old new es)
      (holds (sorted_where (λ k. not (is_within old k)) es h)) (none_new old new es free)))

  pub move_made : (es made : List (Name × X)) (old new : Name) → IsTrue (is_sorted name_cmp es) → entries_within new es ≡ [] → made ≡ with_run (λ x. run_cmp x new) (moved_run old new es) (entries_apart old es) → map_of made ≡ renamed old new (map_of es)
  move_made es made old new h free is =
      same_map name_total name_antisymmetric _ _
      (λ q. get_of made q (move_sorted es made old new h free is)
      ∙ ap (find name_cmp q) is
      ∙ find_with_run name_cmp name_total (λ x. run_cmp x new) (run_apart new) q (moved_run old new es) (entries_apart old es) (all_moved old new es) (none_new old new es free)
      ∙ sym (find_moved old new q es free)
      ∙ ap (λ l. find name_cmp q (map (moved_entry old new) l)) (sym (entries_of es h))
      ∙ sym (get-from_entries name_total (map (moved_entry old new) (fin.entries (map_of es))) q))

  pub free_in : (es : List (Name × X)) (m : Names X) (new : Name) → IsTrue (is_sorted name_cmp es) → map_of es ≡ m → entries_within new (fin.entries m) ≡ [] → entries_within new es ≡ []
  free_in es m new h is free = ap (entries_within new) (sym (entries_of es h)) ∙ ap (λ m. entries_within new (fin.entries m)) is ∙ free

  pub names_in : (es : List (Name × X)) (m : Names X) (names : List Name) (old new : Name) → IsTrue (is_sorted name_cmp es) → map_of es ≡ m → names ≡ map (λ e. moved old new e.0) (entries_within old (fin.entries m)) → names ≡ map (λ e. moved old new e.0) (entries_within old es)
  names_in es m names old new h is are = are ∙ ap (λ m. map (λ e. moved old new e.0) (entries_within old (fin.entries m))) (sym is) ∙ ap (λ l. map (λ e. moved old new e.0) (entries_within old l)) (entries_of es h)
