-- The entries of an access control list as they are kept.
use Rattle.std.specs.Prelude.{◌≡◌, ℕ, ◌≤◌, suc, Bool, IsTrue, length, true, List, [], ◌∷◌, map}
use Rattle.std.specs.Prelude.{find as find_item}
use Rattle.std.specs.Prelude.{◌&&◌, not, nat_le, is_some, option_map, unwrap_or, Result, Ok, Err}
use Rattle.std.specs.Ordering.{nat_cmp, eq_by_cmp}
use Rattle.std.specs.Cmp.Lexicographic.{slice_cmp}
use Rattle.std.specs.FinMap.Entries.{is_sorted, by_order, put, where_key, find}
use Rattle.std.specs.List.{list_all}
use Rattle.imap_rights.specs.Rights.{bits, no_rights}
use Rattle.imap_rights.specs.Acl.{is_entry, max_entries}
use Rattle.imap_rights.specs.declared.acl.Entry.{Entry}

abbrev pub pair_of : Entry → List ℕ × ℕ
pair_of e = (e.identifier, bits e.rights)

-- the identifiers and rights of entries
abbrev pub pairs_of : List Entry → List (List ℕ × ℕ)
pairs_of entries = map (λ e. (e.identifier, bits e.rights)) entries

-- the identifiers strictly rise, each has some rights, and there are few enough
pub record AreEntries (entries : List Entry) : Type 0 where
  pub sorted : IsTrue (is_sorted (slice_cmp nat_cmp) (pairs_of entries))
  pub valid : list_all is_entry (pairs_of entries) ≡ true
  pub few : length entries ≤ max_entries

-- the rights of the first entry whose identifier passes the test
abbrev pub rights_where : (List ℕ → Bool) → List Entry → ℕ
rights_where is_at entries =
    unwrap_or (option_map (λ e. bits e.rights) (find_item (λ e. is_at e.identifier) entries)) no_rights

-- a position, after one more entry
abbrev pub next_position : Result ℕ ℕ → Result ℕ ℕ
next_position (Ok i) = Ok (suc i)
next_position (Err i) = Err (suc i)

-- Ok with the position of an identifier among the keys, or Err with the position of a new entry for it
abbrev pub position : List ℕ → List (List ℕ × ℕ) → Result ℕ ℕ
position identifier [] = Err 0
position identifier (pair ∷ pairs) =
    by_order (slice_cmp nat_cmp identifier pair.0) (Err 0) (Ok 0) (next_position (position identifier pairs))

-- with an entry for the identifier
abbrev pub with_pair : List ℕ → ℕ → List (List ℕ × ℕ) → List (List ℕ × ℕ)
with_pair = put (slice_cmp nat_cmp)

-- without the entry of the identifier
abbrev pub without_pair : List ℕ → List (List ℕ × ℕ) → List (List ℕ × ℕ)
without_pair identifier =
    where_key (slice_cmp nat_cmp) (λ other. not (eq_by_cmp (slice_cmp nat_cmp) identifier other))

-- the pairs after an entry was put in its position
abbrev pub PutsEntry : Entry → List Entry → List Entry → Type 0
PutsEntry entry old new = pairs_of new ≡ with_pair entry.identifier (bits entry.rights) (pairs_of old)

abbrev pub has_pair : List ℕ → List (List ℕ × ℕ) → Bool
has_pair identifier pairs = is_some (find (slice_cmp nat_cmp) identifier pairs)

-- whether the identifier has no entry, and there is no room for one
abbrev pub is_full_list : List ℕ → List (List ℕ × ℕ) → Bool
is_full_list identifier pairs = not (has_pair identifier pairs) && nat_le max_entries (length pairs)

abbrev pub has_entry : List ℕ → List Entry → Bool
has_entry identifier entries = has_pair identifier (pairs_of entries)

abbrev pub is_full : List ℕ → List Entry → Bool
is_full identifier entries = is_full_list identifier (pairs_of entries)
