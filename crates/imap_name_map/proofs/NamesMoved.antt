-- The names of a run, in maps that have the same ones.
use Rattle.std.proofs.Common.{◌≡◌, List, [], ◌∷◌, Bool, true, false, cond, T, Some, None, Option, is_some, map, is_lt, refl, sym, ap, subst, ◌∙◌}
use Rattle.std.specs.Prelude.{option_map, ◌&&◌}
use Rattle.std.specs.Ordering.{eq_by_cmp}
use Rattle.std.specs.FinMap as fin
use Rattle.std.specs.FinMap.{entries_sorted}
use Rattle.std.specs.FinMap.Entries.{find, below_all, is_sorted, is_sorted-where_key, same_entries}
use Rattle.imap_names.specs.Name.{Name}
use Rattle.imap_names.specs.Order.{Names, name_cmp, is_within, moved}
use Rattle.imap_names.proofs.OrderLaws.{name_total, name_antisymmetric}
use Rattle.imap_name_map.specs.Rows.{run_of}
use Rattle.imap_name_map.specs.Renaming.{moved_names}
use Rattle.imap_name_map.proofs.Runs.{get_in_run}

abbrev mark_of : {X : Type 0} → Option X → Option (Unit {0})
mark_of o = option_map (λ x. tt) o

-- the entries with no value but that they are there
abbrev marked : {X : Type 0} → List (Name × X) → List (Name × Unit {0})
marked es = map (λ e. (e.0, tt)) es

module _ {X : Type 0} where
  find_marked : (q : Name) (es : List (Name × X)) → find name_cmp q (marked es) ≡ mark_of (find name_cmp q es)
  find_marked q [] = refl
  find_marked q (e ∷ es) = by (eq_by_cmp name_cmp q e.0) (find_marked q es)
    where
      by : (b : Bool) → find name_cmp q (marked es) ≡ mark_of (find name_cmp q es) → cond b (Some tt) (find name_cmp q (marked es)) ≡ mark_of (cond b (Some e.1) (find name_cmp q es))
      by true rest = refl
      by false rest = rest

  below_marked : (x : Name) (es : List (Name × X)) → below_all name_cmp x (marked es) ≡ below_all name_cmp x es
  below_marked x [] = refl
  below_marked x (e ∷ es) = ap (λ b. is_lt (name_cmp x e.0) && b) (below_marked x es)

  sorted_marked : (es : List (Name × X)) → is_sorted name_cmp (marked es) ≡ is_sorted name_cmp es
  sorted_marked [] = refl
  sorted_marked (e ∷ es) = λ i. below_marked e.0 es i && sorted_marked es i

  named_marked : (f : Name → Name) (es : List (Name × X)) → map (λ e. f e.0) (marked es) ≡ map (λ e. f e.0) es
  named_marked f [] = refl
  named_marked f (e ∷ es) = ap (λ names. f e.0 ∷ names) (named_marked f es)

  run_sorted : (top : Name) (m : Names X) → T (is_sorted name_cmp (marked (run_of top m)))
  run_sorted top m =
      subst T (sym (sorted_marked (run_of top m))) (is_sorted-where_key name_cmp (is_within top) (fin.entries m) (entries_sorted m))

same_marks : {X Y : Type 0} (o : Option X) (p : Option Y) → is_some o ≡ is_some p → mark_of o ≡ mark_of p
same_marks None None e = refl
same_marks None (Some y) e = cc
same_marks (Some x) None e = cc
same_marks (Some x) (Some y) e = refl

-- maps that have the same names at and below `top`
module _ {X Y : Type 0} (top : Name) (m : Names X) (n : Names Y) (same : (q : Name) → is_within top q ≡ true → fin.contains_key m q ≡ fin.contains_key n q) where
  found_alike : (q : Name) → mark_of (find name_cmp q (run_of top m)) ≡ mark_of (find name_cmp q (run_of top n))
  found_alike q = ap mark_of (get_in_run top m q) ∙ by (is_within top q) refl ∙ sym (ap mark_of (get_in_run top n q))
    where
      by : (b : Bool) → is_within top q ≡ b → mark_of (cond b (fin.get m q) None) ≡ mark_of (cond b (fin.get n q) None)
      by true within = same_marks (fin.get m q) (fin.get n q) (same q within)
      by false apart = refl

  runs_alike : marked (run_of top m) ≡ marked (run_of top n)
  runs_alike =
      same_entries name_cmp name_total name_antisymmetric (marked (run_of top m)) (marked (run_of top n)) (run_sorted top m) (run_sorted top n)
      (λ q. find_marked q (run_of top m) ∙ found_alike q ∙ sym (find_marked q (run_of top n)))

-- they have the same run of names, and move it to the same names
pub run_names_alike : {X Y : Type 0} (top : Name) (f : Name → Name) (m : Names X) (n : Names Y) → ((q : Name) → is_within top q ≡ true → fin.contains_key m q ≡ fin.contains_key n q) → map (λ e. f e.0) (run_of top m) ≡ map (λ e. f e.0) (run_of top n)
run_names_alike top f m n same =
    sym (named_marked f (run_of top m)) ∙ ap (map (λ e. f e.0)) (runs_alike top m n same) ∙ named_marked f (run_of top n)

pub moved_names_alike : {X Y : Type 0} (old new : Name) (m : Names X) (n : Names Y) → ((q : Name) → is_within old q ≡ true → fin.contains_key m q ≡ fin.contains_key n q) → moved_names old new m ≡ moved_names old new n
moved_names_alike old new m n same = run_names_alike old (moved old new) m n same
