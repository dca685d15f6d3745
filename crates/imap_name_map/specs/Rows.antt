-- A map from names, with the room that it has for more of them.
use Rattle.std.specs.Prelude.{ℕ, Bool, ◌||◌, List, [], ◌∷◌, refl}
use Rattle.std.specs.List.{list_any}
use Rattle.std.specs.FinMap as fin
use Rattle.std.specs.FinMap.Entries.{put, where_key}
use Rattle.std.specs.Coded.{Coded, code_by, coded×, coded_ℕ, coded_list}
use Rattle.imap_names.specs.Name.{Name}
use Rattle.imap_names.specs.Order.{Names, name_cmp, is_within, is_below}

pub record Rows (X : Type 0) : Type 0 where
  pub map : Names X
  -- how many names it takes without memory
  pub spare : ℕ

abbrev pub rows_code : {X : Type 0} → Coded X → Coded (Rows X)
rows_code {X} x =
    code_by (Names X × ℕ) (coded× (fin.code (coded_list (coded_list coded_ℕ)) x) coded_ℕ)
    (λ r. (r.map, r.spare)) (λ p. record { map = p.0; spare = p.1 }) (λ _. refl)

abbrev pub with_value : {X : Type 0} → Rows X → Name → X → Rows X
with_value rows name value = record { map = fin.insert rows.map name value; spare = rows.spare }

-- the map in which these entries are set, one after the other
abbrev pub inserted_all : {X : Type 0} → Names X → List (Name × X) → Names X
inserted_all map [] = map
inserted_all map (e ∷ more) = inserted_all (fin.insert map e.0 e.1) more

-- the list of entries in which these are set, one after the other
abbrev pub put_all : {X : Type 0} → List (Name × X) → List (Name × X) → List (Name × X)
put_all entries [] = entries
put_all entries (e ∷ more) = put_all (put name_cmp e.0 e.1 entries) more

-- of a list of entries those whose names are `top` or below it, in their order
abbrev pub entries_within : {X : Type 0} → Name → List (Name × X) → List (Name × X)
entries_within top entries = where_key name_cmp (is_within top) entries

-- the entries of `top` and of all names below it, in the order of the names
abbrev pub run_of : {X : Type 0} → Name → Names X → List (Name × X)
run_of top map = entries_within top (fin.entries map)

-- of a list of entries those whose names are below `top`, in their order
abbrev pub entries_below : {X : Type 0} → Name → List (Name × X) → List (Name × X)
entries_below top entries = where_key name_cmp (is_below top) entries

-- the entries of all names below `top`, in the order of the names
abbrev pub below_of : {X : Type 0} → Name → Names X → List (Name × X)
below_of top map = entries_below top (fin.entries map)

-- whether there is a name below `top`
abbrev pub has_below : {X : Type 0} → Name → Names X → Bool
has_below top map = list_any (λ e. is_below top e.0) (fin.entries map)

-- whether `top` or a name below it is there
abbrev pub has_within : {X : Type 0} → Name → Names X → Bool
has_within top map = fin.contains_key map top || has_below top map
