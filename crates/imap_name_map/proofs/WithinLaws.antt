-- Whether a name or one below it is there, and what a run is beside the names below its top.
use Rattle.std.proofs.Common.{◌≡◌, List, [], ◌∷◌, Bool, true, false, cond, not, IsTrue, Some, None, Option, is_some, length, map, refl, sym, ap, ◌∙◌, arith}
use Rattle.std.specs.Prelude.{◌↔◌, ◌==◌, ◌&&◌, ◌||◌, nat_lt}
use Rattle.std.specs.List.{list_any, list_all}
use Rattle.std.proofs.lemmas.Bool.{and_parts, and_from, eqb-true, ne_eqb}
use Rattle.std.proofs.lemmas.List.{nil_from_length}
use Rattle.std.specs.FinMap as fin
use Rattle.std.specs.FinMap.{get-entries}
use Rattle.std.specs.FinMap.Entries.{find, is_sorted, find-where_key}
use Rattle.imap_names.specs.Name.{Name}
use Rattle.imap_names.specs.Order.{Names, name_cmp, is_within, is_below}
use Rattle.imap_names.proofs.OrderLaws.{name_antisymmetric}
use Rattle.imap_names.proofs.NameLaws.{is_name_at, equal_names, is_name_at-same}
use Rattle.imap_names.proofs.MovedLaws.{within_itself}
use Rattle.imap_name_map.specs.Rows.{entries_within, entries_below, run_of, below_of, has_within}
use Rattle.imap_name_map.proofs.Maps.{sorted_entries, sorted_where}
use Rattle.imap_name_map.proofs.Runs.{any_below, all_within, all_within-entries, below_within, below_unless_top, not_below_itself, without_split}

at_decides : (top name : Name) → (is_name_at top name ≡ true) ↔ (name ≡ top)
at_decides top name = (λ t. sym (equal_names top name t), λ e. ap (is_name_at top) e ∙ is_name_at-same top)

either : (b : Bool) → (b || not b) ≡ true
either true = refl
either false = refl

-- a name within a run is its top, or below it
at_or_below : (top name : Name) → (is_name_at top name || is_below top name) ≡ is_within top name
at_or_below top name = by (is_within top name) refl (is_name_at top name) refl
  where
    by : (w : Bool) → is_within top name ≡ w → (s : Bool) → is_name_at top name ≡ s → (is_name_at top name || is_below top name) ≡ w
    by true within s same =
        ap (λ b. is_name_at top name || b) (below_unless_top top name within (is_name_at top name) (at_decides top name)) ∙ either (is_name_at top name)
    by false apart true same =
        let there : is_within top name ≡ true = ap (is_within top) ((at_decides top name).0 same) ∙ within_itself top in
        absurd (cc (sym apart ∙ there))
    by false apart false same = λ i. same i || (apart i && nat_lt (length top) (length name))

is_some_either : {A : Type 0} (b : Bool) (x : A) (o : Option A) → is_some (cond b (Some x) o) ≡ (b || is_some o)
is_some_either true x o = refl
is_some_either false x o = refl

regrouped : (a b c d : Bool) → ((a || b) || (c || d)) ≡ ((a || c) || (b || d))
regrouped true b c d = refl
regrouped false true true d = refl
regrouped false true false d = refl
regrouped false false c d = refl

not_empty : {A : Type 0} (x : A) (xs : List A) → (length (x ∷ xs) == 0) ≡ false
not_empty x xs = ne_eqb (length (x ∷ xs)) 0 (λ e. omega (arith, e))

module _ {X : Type 0} (top : Name) where
  abbrev any_within : List (Name × X) → Bool
  any_within = list_any (λ e. is_within top e.0)

  found_or_below : (es : List (Name × X)) → (is_some (find name_cmp top es) || any_below top es) ≡ any_within es
  found_or_below [] = refl
  found_or_below (e ∷ es) =
      ap (λ b. b || any_below top (e ∷ es)) (is_some_either (is_name_at top e.0) e.1 (find name_cmp top es))
      ∙ regrouped (is_name_at top e.0) (is_some (find name_cmp top es)) (is_below top e.0) (any_below top es)
      ∙ (λ i. at_or_below top e.0 i || found_or_below es i)

  any_within-length : (es : List (Name × X)) → any_within es ≡ not (length (entries_within top es) == 0)
  any_within-length [] = refl
  any_within-length (e ∷ es) = by (is_within top e.0) (any_within-length es)
    where
      by : (b : Bool) → any_within es ≡ not (length (entries_within top es) == 0) → (b || any_within es) ≡ not (length (cond b (e ∷ entries_within top es) (entries_within top es)) == 0)
      by true rest = sym (ap not (not_empty e (entries_within top es)))
      by false rest = rest

  all_within-below : (es : List (Name × X)) → all_within top (entries_below top es) ≡ true
  all_within-below [] = refl
  all_within-below (e ∷ es) = by (is_below top e.0) refl (all_within-below es)
    where
      by : (b : Bool) → is_below top e.0 ≡ b → all_within top (entries_below top es) ≡ true → all_within top (cond b (e ∷ entries_below top es) (entries_below top es)) ≡ true
      by true h rest = and_from _ _ (and_parts _ _ h).0 rest
      by false h rest = rest

  not_found_below : (es : List (Name × X)) → find name_cmp top (entries_below top es) ≡ None
  not_found_below es =
      find-where_key name_cmp (is_below top) top (λ x t. ap (is_below top) (sym (name_antisymmetric top x t))) es
      ∙ ap (λ b. cond b (find name_cmp top es) None) (not_below_itself top)

  top_first : (es : List (Name × X)) → IsTrue (is_sorted name_cmp es) → all_within top es ≡ true → is_some (find name_cmp top es) ≡ true → map (λ e. e.0) es ≡ top ∷ map (λ e. e.0) (entries_below top es)
  top_first [] sorted within there = cc
  top_first (e ∷ es) sorted within there =
      by (is_name_at top e.0) refl (without_split top (e ∷ es) e es e.0 (is_name_at top e.0) refl refl sorted within (at_decides top e.0))
    where
      by : (same : Bool) → is_name_at top e.0 ≡ same → entries_below top (e ∷ es) ≡ cond (is_name_at top e.0) es (e ∷ es) → map (λ e. e.0) (e ∷ es) ≡ top ∷ map (λ e. e.0) (entries_below top (e ∷ es))
      by true same rest =
          let below : entries_below top (e ∷ es) ≡ es = rest ∙ ap (λ b. cond b es (e ∷ es)) same in
          (λ i. (at_decides top e.0).0 same i ∷ map (λ e. e.0) (sym below i))
      by false other rest =
          let below : entries_below top (e ∷ es) ≡ e ∷ es = rest ∙ ap (λ b. cond b es (e ∷ es)) other in
          let missed : is_some (find name_cmp top (e ∷ es)) ≡ false = ap (λ l. is_some (find name_cmp top l)) (sym below) ∙ ap is_some (not_found_below (e ∷ es)) in
          absurd (cc (sym missed ∙ there))

-- ---- of maps

module _ {X : Type 0} (top : Name) (m : Names X) where
  pub has_within-length : has_within top m ≡ not (length (run_of top m) == 0)
  has_within-length =
      ap (λ o. is_some o || any_below top (fin.entries m)) (get-entries m top)
      ∙ found_or_below top (fin.entries m) ∙ any_within-length top (fin.entries m)

  pub not_has_within : not (has_within top m) ≡ (length (run_of top m) == 0)
  not_has_within = ap not has_within-length ∙ twice (length (run_of top m) == 0)
    where
      twice : (b : Bool) → not (not b) ≡ b
      twice true = refl
      twice false = refl

  pub run_is_empty : has_within top m ≡ false → run_of top m ≡ []
  run_is_empty none = nil_from_length (run_of top m) (eqb-true _ 0 (sym not_has_within ∙ ap not none))

  pub none_within : run_of top m ≡ [] → has_within top m ≡ false
  none_within empty = has_within-length ∙ ap (λ es. not (length es == 0)) empty

  -- each name of a run is its top or below it
  pub run_within : list_all (λ e. is_within top e.0) (run_of top m) ≡ true
  run_within = all_within-entries top (fin.entries m)

  pub below_of-within : list_all (λ e. is_within top e.0) (below_of top m) ≡ true
  below_of-within = all_within-below top (fin.entries m)

  -- a run whose top is there begins with it, and the others are below it
  pub run_names : fin.contains_key m top ≡ true → map (λ e. e.0) (run_of top m) ≡ top ∷ map (λ e. e.0) (below_of top m)
  run_names there =
      top_first top (run_of top m) (sorted_where (is_within top) (fin.entries m) (sorted_entries m (fin.entries m) refl)) (all_within-entries top (fin.entries m)) found
      ∙ ap (λ es. top ∷ map (λ e. e.0) es) (below_within top (fin.entries m))
    where
      found : is_some (find name_cmp top (run_of top m)) ≡ true
      found =
          ap is_some
          (find-where_key name_cmp (is_within top) top (λ x t. ap (is_within top) (sym (name_antisymmetric top x t))) (fin.entries m)
          ∙ ap (λ b. cond b (find name_cmp top (fin.entries m)) None) (within_itself top)
          ∙ sym (get-entries m top))
          ∙ there
