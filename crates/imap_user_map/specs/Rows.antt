-- A map from user names, with the number of names for which it has room.
use Rattle.std.specs.Prelude.{ℕ, List, map, refl}
use Rattle.std.specs.Ordering.{nat_cmp}
use Rattle.std.specs.Cmp.Lexicographic.{slice_cmp}
use Rattle.std.specs.FinMap.{FinMap, from_entries}
use Rattle.std.specs.FinMap as fin
use Rattle.std.specs.Coded.{Coded, code_by, coded×, coded_ℕ, coded_list}
use Rattle.std.specs.HashMap.{HashMap, spare}
use Rattle.std.specs.String.{string_bytes}
use Rattle.std.specs.declared.string.String.{String}

-- by the octets of their names
abbrev pub Users : Type 0 → Type 0
Users X = FinMap {K = List ℕ} (slice_cmp nat_cmp) X

pub record Rows (X : Type 0) : Type 0 where
  pub map : Users X
  pub spare : ℕ

abbrev pub users_code : {X : Type 0} → Coded X → Coded (Users X)
users_code x = fin.code (coded_list coded_ℕ) x

abbrev pub rows_code : {X : Type 0} → Coded X → Coded (Rows X)
rows_code {X} x =
    code_by (Users X × ℕ) (coded× (users_code x) coded_ℕ)
    (λ r. (r.map, r.spare)) (λ p. record { map = p.0; spare = p.1 }) (λ _. refl)

-- what entries under texts are as a map by the texts' octets
abbrev pub by_octets : {X Z : Type 0} → List (String Z × X) → Users X
by_octets entries = from_entries (map (λ e. (string_bytes e.0, e.1)) entries)

abbrev pub rows_of : {X Z S : Type 0} → HashMap (String Z) X S → Rows X
rows_of table = record { map = by_octets table.entries; spare = spare table }

-- with another value at a name
abbrev pub with_value : {X : Type 0} → Rows X → List ℕ → X → Rows X
with_value rows name value = record { map = fin.insert rows.map name value; spare = rows.spare }
