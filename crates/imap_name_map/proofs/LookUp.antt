-- What is found under a name once others have moved.
use Rattle.std.proofs.Common.{◌≡◌, List, [], ◌∷◌, Bool, true, false, cond, not, Some, None, map, is_eq, refl, sym, ap, ◌∙◌}
use Rattle.std.specs.Ordering.{eq_by_cmp}
use Rattle.std.specs.FinMap as fin
use Rattle.std.specs.FinMap.{get-entries, get-from_entries}
use Rattle.std.specs.FinMap.Entries.{find, find-where_key}
use Rattle.imap_names.specs.Name.{Name}
use Rattle.imap_names.specs.Order.{Names, name_cmp, is_within, moved}
use Rattle.imap_names.proofs.OrderLaws.{name_total, name_antisymmetric, tied, moved_cmp}
use Rattle.imap_names.proofs.MovedLaws.{moved_within, there_and_back}
use Rattle.imap_name_map.specs.Rows.{entries_within, run_of}
use Rattle.imap_name_map.specs.Renaming.{entries_apart, moved_run, moved_entry, renamed, value_after}
use Rattle.imap_name_map.proofs.Maps.{turned}
use Rattle.imap_name_map.proofs.RenameLaws.{find_moved}

-- a name and another that moves to it are told apart as those are from which they come
alike_moved : (old new q name : Name) → is_within new q ≡ true → is_within old name ≡ true → eq_by_cmp name_cmp q (moved old new name) ≡ eq_by_cmp name_cmp (moved new old q) name
alike_moved old new q name e f =
    ap is_eq (sym (moved_cmp new old q (moved old new name) (tied _ e) (tied _ (moved_within old new name f))))
    ∙ ap (eq_by_cmp name_cmp (moved new old q)) (there_and_back old new name f)

module _ {X : Type 0} (old new q : Name) where
  -- in the run under its new names
  find_in_moved : (es : List (Name × X)) → is_within new q ≡ true → find name_cmp q (moved_run old new es) ≡ find name_cmp (moved new old q) (entries_within old es)
  find_in_moved [] e = refl
  find_in_moved (entry ∷ es) e = by (is_within old entry.0) refl (find_in_moved es e)
    where
      by : (b : Bool) → is_within old entry.0 ≡ b → find name_cmp q (moved_run old new es) ≡ find name_cmp (moved new old q) (entries_within old es)
          → find name_cmp q (map (λ e. (moved old new e.0, e.1)) (cond b (entry ∷ entries_within old es) (entries_within old es))) ≡ find name_cmp (moved new old q) (cond b (entry ∷ entries_within old es) (entries_within old es))
      by true f rest =
          ap (λ b. cond b (Some entry.1) (find name_cmp q (moved_run old new es))) (alike_moved old new q entry.0 e f)
          ∙ ap (cond (eq_by_cmp name_cmp (moved new old q) entry.0) (Some entry.1)) rest
      by false f rest = rest

  find_in_run : (es : List (Name × X)) → find name_cmp q (entries_within old es) ≡ cond (is_within old q) (find name_cmp q es) None
  find_in_run es = find-where_key name_cmp (is_within old) q (λ x t. ap (is_within old) (sym (name_antisymmetric q x t))) es

  find_apart : (es : List (Name × X)) → find name_cmp q (entries_apart old es) ≡ cond (is_within old q) None (find name_cmp q es)
  find_apart es =
      find-where_key name_cmp (λ name. not (is_within old name)) q (λ x t. ap (λ n. not (is_within old n)) (sym (name_antisymmetric q x t))) es
      ∙ turned (is_within old q) (find name_cmp q es) None

module _ {X : Type 0} (old new : Name) (m : Names X) (q : Name) where
  from_run : is_within new q ≡ true → find name_cmp q (moved_run old new (fin.entries m)) ≡ fin.get m (moved new old q)
  from_run e =
      find_in_moved old new q (fin.entries m) e
      ∙ find_in_run old new (moved new old q) (fin.entries m)
      ∙ ap (λ b. cond b (find name_cmp (moved new old q) (fin.entries m)) None) (moved_within new old q e)
      ∙ sym (get-entries m (moved new old q))

  from_others : find name_cmp q (entries_apart old (fin.entries m)) ≡ cond (is_within old q) None (fin.get m q)
  from_others = find_apart old new q (fin.entries m) ∙ ap (cond (is_within old q) None) (sym (get-entries m q))

  -- the renamed map, read by look-up
  pub get_renamed : run_of new m ≡ [] → fin.get (renamed old new m) q ≡ value_after old new m q
  get_renamed free =
      get-from_entries name_total (map (moved_entry old new) (fin.entries m)) q
      ∙ find_moved old new q (fin.entries m) free
      ∙ by (is_within new q) refl
    where
      by : (b : Bool) → is_within new q ≡ b → cond b (find name_cmp q (moved_run old new (fin.entries m))) (find name_cmp q (entries_apart old (fin.entries m))) ≡ cond b (fin.get m (moved new old q)) (cond (is_within old q) None (fin.get m q))
      by true e = from_run e
      by false e = from_others

  -- a name at or below `new` has what was there before it moved
  pub renamed_comes : run_of new m ≡ [] → is_within new q ≡ true → fin.get (renamed old new m) q ≡ fin.get m (moved new old q)
  renamed_comes free e = get_renamed free ∙ ap (λ b. cond b (fin.get m (moved new old q)) (cond (is_within old q) None (fin.get m q))) e

  -- of other names, those at or below `old` are gone
  pub renamed_goes : run_of new m ≡ [] → is_within new q ≡ false → is_within old q ≡ true → fin.get (renamed old new m) q ≡ None
  renamed_goes free out e =
      get_renamed free
      ∙ ap (λ b. cond b (fin.get m (moved new old q)) (cond (is_within old q) None (fin.get m q))) out
      ∙ ap (λ b. cond b None (fin.get m q)) e

  -- and all others stay
  pub renamed_stays : run_of new m ≡ [] → is_within new q ≡ false → is_within old q ≡ false → fin.get (renamed old new m) q ≡ fin.get m q
  renamed_stays free out apart =
      get_renamed free
      ∙ ap (λ b. cond b (fin.get m (moved new old q)) (cond (is_within old q) None (fin.get m q))) out
      ∙ ap (λ b. cond b None (fin.get m q)) apart
