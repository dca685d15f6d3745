-- RENAME of a name with all names below it (RFC 9051, section 6.3.6): they move, under new names, to
-- another place.
use Rattle.std.specs.Prelude.{◌≡◌, List, [], ◌∷◌, ◌++◌, Option, None, not, map, take, drop, if◌then◌else◌}
use Rattle.std.specs.declared.cmp.Ordering.{Ordering}
use Rattle.std.specs.FinMap as fin
use Rattle.std.specs.FinMap.Entries.{where_key}
use Rattle.imap_names.specs.Name.{Name}
use Rattle.imap_names.specs.Order.{Names, name_cmp, is_within, moved}
use Rattle.imap_name_map.specs.Cuts.{before}
use Rattle.imap_name_map.specs.Rows.{entries_within, run_of}

abbrev pub moved_entry : {X : Type 0} → Name → Name → Name × X → Name × X
moved_entry old new e = if is_within old e.0 then (moved old new e.0, e.1) else e

-- the map in which `old` and all names below it are moved to `new`
abbrev pub renamed : {X : Type 0} → Name → Name → Names X → Names X
renamed old new m = fin.from_entries (map (moved_entry old new) (fin.entries m))

-- what stands at the name once `old` and all names below it are moved to `new`
abbrev pub value_after : {X : Type 0} → Name → Name → Names X → Name → Option X
value_after old new m name =
    if is_within new name then fin.get m (moved new old name)
    else if is_within old name then None else fin.get m name

-- `after` has at each name what stands there once `old` and all names below it are moved to `new` in `before`
abbrev pub IsRenamed : {X : Type 0} → Name → Name → Names X → Names X → Type 0
IsRenamed old new before after = (name : Name) → fin.get after name ≡ value_after old new before name

-- the names to which `old` and all names below it move, in their order
abbrev pub moved_names : {X : Type 0} → Name → Name → Names X → List Name
moved_names old new m = map (λ e. moved old new e.0) (run_of old m)

-- ---- of lists of entries

abbrev pub entries_apart : {X : Type 0} → Name → List (Name × X) → List (Name × X)
entries_apart top entries = where_key name_cmp (λ name. not (is_within top name)) entries

abbrev pub moved_run : {X : Type 0} → Name → Name → List (Name × X) → List (Name × X)
moved_run old new entries = map (λ e. (moved old new e.0, e.1)) (entries_within old entries)

-- the entries, the first of them under these names
abbrev pub with_names : {X : Type 0} → List Name → List (Name × X) → List (Name × X)
with_names [] entries = entries
with_names (name ∷ names) [] = []
with_names (name ∷ names) (e ∷ entries) = (name, e.1) ∷ with_names names entries

-- the entries with a run at its place among them
abbrev pub with_run : {K X : Type 0} → (K → Ordering) → List (K × X) → List (K × X) → List (K × X)
with_run c run entries = take (before c entries) entries ++ run ++ drop (before c entries) entries
