-- What is found in a map of names, as entries.
use Rattle.std.proofs.Common.{◌≡◌, true, cond, length, List, [], ◌∷◌, map, Some, refl, sym, ap, ◌∙◌}
use Rattle.std.specs.Prelude.{◌↔◌}
use Rattle.std.specs.FinMap as fin
use Rattle.std.specs.FinMap.Entries.{find}
use Rattle.std.specs.List.{Contains}
use Rattle.std.specs.Map.{keys_of, lookup}
use Rattle.std.specs.Ordering.{eq_by_cmp}
use Rattle.std.specs.Cmp.{eq_by_cmp_equiv}
use Rattle.std.proofs.lemmas.Map.Keys.{IsDistinct-from_sorted}
use Rattle.std.proofs.lemmas.Map.Views.{Contains-from_lookup, lookup-from_Contains, Contains-from_any, list_any-from_Contains, tells_apart}
use Rattle.imap_names.specs.Name.{Name}
use Rattle.imap_names.specs.Order.{Names, name_cmp}
use Rattle.imap_names.proofs.OrderLaws.{name_total, name_antisymmetric}
use Rattle.imap_listing.proofs.Order.{rising_keys}

no_length : {A : Type 0} (xs : List A) → length xs ≡ 0 → xs ≡ []
no_length [] e = refl
no_length (x ∷ xs) e = cc

pub entries_empty : {X : Type 0} → fin.entries (fin.empty {K = Name} {X = X} {R = name_cmp}) ≡ []
entries_empty {X} = no_length (fin.entries (fin.empty {K = Name} {X = X} {R = name_cmp})) (sym (fin.len-entries (fin.empty {K = Name} {X = X} {R = name_cmp})) ∙ fin.len-empty name_cmp X)

module _ {X : Type 0} where
  find_lookup : (name : Name) (es : List (Name × X)) → find name_cmp name es ≡ lookup (eq_by_cmp name_cmp name) es
  find_lookup name [] = refl
  find_lookup name (e ∷ es) = ap (cond (eq_by_cmp name_cmp name e.0) (Some e.1)) (find_lookup name es)

  pub get_entry : (m : Names X) (name : Name) (x : X) → (fin.get m name ≡ Some x) ↔ Contains (fin.entries m) (name, x)
  get_entry m name x =
      let es = fin.entries m in
      let same : fin.get m name ≡ lookup (eq_by_cmp name_cmp name) es = fin.get-entries m name ∙ find_lookup name es in (
        λ e. Contains-from_lookup (tells_apart name_antisymmetric) name x es (sym same ∙ e),
        λ c. same ∙ lookup-from_Contains (eq_by_cmp_equiv name_total) name x es (IsDistinct-from_sorted name_cmp (keys_of es) (rising_keys name_cmp es (fin.entries_sorted m))) c,
      )

  pub has_key : (m : Names X) (name : Name) → (fin.contains_key m name ≡ true) ↔ Contains (map (λ e. e.0) (fin.entries m)) name
  has_key m name =
      let keys = fin.keys m in (
        λ e. Contains-from_any (tells_apart name_antisymmetric) name keys (sym (fin.contains_key-keys m name) ∙ e),
        λ c. fin.contains_key-keys m name ∙ list_any-from_Contains (eq_by_cmp_equiv name_total) name keys c,
      )
