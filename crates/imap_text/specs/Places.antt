-- The fields of a header by their places in it, and the places by the fields' names.
use Rattle.std.specs.Prelude.{◌≡◌, ◌+◌, ◌-◌, ◌<◌, ◌≤◌, ℕ, Bool, false, if◌then◌else◌, List, [], ◌∷◌, ◌++◌, map, length, unwrap_or, get_or, nat_eq}
use Rattle.std.specs.Prelude.{slice_range}
use Rattle.std.specs.Char.{to_ascii_lowercase}
use Rattle.std.specs.List.{concat, after_first, list_any}
use Rattle.std.specs.Ordering.{nat_cmp}
use Rattle.std.specs.Cmp.Lexicographic.{slice_cmp}
use Rattle.std.specs.Coded.{Coded, coded_ℕ, coded_list}
use Rattle.std.specs.FinMap.{FinMap, from_entries}
use Rattle.std.specs.FinMap as fin
use Rattle.std.specs.declared.vec.Vec.{Vec}
use Rattle.imap_text.specs.Sections.{sections}
use Rattle.imap_text.specs.Fields.{HeaderField, header_fields, field_lines, is_chosen, is_colon}

-- from the name of fields in lower case to the places of these fields
abbrev pub FieldPlaces : Type 0
FieldPlaces = FinMap {K = List ℕ} (slice_cmp nat_cmp) (List ℕ)

abbrev pub field_places_code : Coded FieldPlaces
field_places_code = fin.code (coded_list coded_ℕ) (coded_list coded_ℕ)

abbrev pub by_name : {Y Z : Type 0} → List (Vec ℕ Y × Vec ℕ Z) → FieldPlaces
by_name entries = from_entries (map (λ e. (e.0.items, e.1.items)) entries)

-- the places of the fields of a name, which is in lower case
abbrev pub places_of : FieldPlaces → List ℕ → List ℕ
places_of named name = unwrap_or (fin.get named name) []

-- with one more field of the name
abbrev pub with_place : FieldPlaces → List ℕ → ℕ → FieldPlaces
with_place named name place = fin.insert named name (places_of named name ++ place ∷ [])

abbrev pub has_place : (places : List ℕ) → ℕ → Bool
has_place places place = list_any (nat_eq place) places

-- whether a field at the place has one of the names
abbrev pub is_place_of_any : FieldPlaces → (names : List (List ℕ)) → ℕ → Bool
is_place_of_any named names place = list_any (λ name. has_place (places_of named (map to_ascii_lowercase name)) place) names

-- the places of those elements that pass the test, if the first one has the place `first`
abbrev pub places_from : {X : Type 0} → (X → Bool) → ℕ → List X → List ℕ
places_from test first [] = []
places_from test first (x ∷ xs) =
    if test x then first ∷ places_from test (first + 1) xs else places_from test (first + 1) xs

-- the places of the fields that have one of the names
abbrev pub places_named : (names : List (List ℕ)) → (message : List ℕ) → List ℕ
places_named names message = places_from (is_chosen names false) 0 (header_fields message)

abbrev pub field_octets : HeaderField → List ℕ
field_octets field = concat (field_lines field)

-- Where each of these fields begins, if the first does at `start`; where the last line begins, which follows
-- them; and where it ends.
abbrev pub bounds_from : (start : ℕ) → List HeaderField → (last : List ℕ) → List ℕ
bounds_from start [] last = start ∷ (start + length last) ∷ []
bounds_from start (field ∷ later) last = start ∷ bounds_from (start + length (field_octets field)) later last

abbrev pub bounds_of : (message : List ℕ) → List ℕ
bounds_of message = bounds_from 0 (header_fields message) (concat (sections message).end)

-- what is kept of a header that was cut: the bounds, and the places by names
pub record IsIndex (message starts : List ℕ) (places : FieldPlaces) : Type 0 where
  pub bounds : starts ≡ bounds_of message
  pub named : (name : List ℕ) → places_of places (map to_ascii_lowercase name) ≡ places_named (name ∷ []) message

-- ---- what stands at places

abbrev pub bound_at : (bounds : List ℕ) → ℕ → ℕ
bound_at bounds place = get_or bounds place 0

-- the octets from the place's bound up to the next
abbrev pub octets_at : (message bounds : List ℕ) → ℕ → List ℕ
octets_at message bounds place = slice_range message (bound_at bounds place) (bound_at bounds (place + 1))

abbrev pub all_at : (message bounds places : List ℕ) → List ℕ
all_at message bounds places = concat (map (octets_at message bounds) places)

abbrev pub texts_at : (message bounds places : List ℕ) → List (List ℕ)
texts_at message bounds places = map (λ place. after_first is_colon (octets_at message bounds place)) places

-- the octets from `start` on up to the last bound that stand at none of the places
abbrev pub others_from : (message bounds : List ℕ) → (start : ℕ) → (places : List ℕ) → List ℕ
others_from message bounds start [] = slice_range message start (bound_at bounds (length bounds - 1))
others_from message bounds start (place ∷ later) =
    slice_range message start (bound_at bounds place) ++ others_from message bounds (bound_at bounds (place + 1)) later

-- the places are in their order, none before `start`, and the bounds of each within the message
abbrev pub AreInOrder : (message bounds : List ℕ) → (start : ℕ) → (places : List ℕ) → Type 0
AreInOrder message bounds start [] =
    (0 < length bounds) × (start ≤ bound_at bounds (length bounds - 1))
    × (bound_at bounds (length bounds - 1) ≤ length message)
AreInOrder message bounds start (place ∷ later) =
    (start ≤ bound_at bounds place) × (bound_at bounds place ≤ bound_at bounds (place + 1))
    × (place + 1 < length bounds) × AreInOrder message bounds (bound_at bounds (place + 1)) later
