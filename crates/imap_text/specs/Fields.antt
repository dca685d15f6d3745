-- The fields of a header (RFC 5322, section 2.2; RFC 9051, section 6.4.5.1, HEADER.FIELDS and
-- HEADER.FIELDS.NOT).
use Rattle.std.specs.Prelude.{◌≡◌, ◌+◌, ◌==◌, ◌||◌, not, ℕ, Bool, true, false, if◌then◌else◌, Option}
use Rattle.std.specs.Prelude.{List, [], ◌∷◌, ◌++◌, map, filter, count_by, take, position, take_while}
use Rattle.std.specs.Prelude.{option_map}
use Rattle.std.specs.List.{concat, flat_map, list_any, after_first}
use Rattle.std.specs.Option.{option_map_or}
use Rattle.std.specs.Str.{str_eq_ignore_ascii_case}
use Rattle.imap_text.specs.Sections.{sections, header_lines}

-- A line that begins with a space or a tab goes on with the field before it (RFC 5322, section 2.2.3).
abbrev pub is_continuation : List ℕ → Bool
is_continuation [] = false
is_continuation (b ∷ bs) = b == 32 || b == 9

-- a field by its lines
pub record HeaderField : Type 0 where
  pub first : List ℕ
  pub continuations : List (List ℕ)

-- the field that begins with a line, if these lines come after it
abbrev pub field_from : List ℕ → List (List ℕ) → HeaderField
field_from line later = record { first = line; continuations = take_while is_continuation later }

-- the fields that begin among these lines
abbrev pub fields_among : List (List ℕ) → List HeaderField
fields_among [] = []
fields_among (line ∷ later) =
    if is_continuation line then fields_among later else field_from line later ∷ fields_among later

-- the fields of these lines; the first line begins one in any case
abbrev pub fields_of : List (List ℕ) → List HeaderField
fields_of [] = []
fields_of (line ∷ later) = field_from line later ∷ fields_among later

abbrev pub header_fields : List ℕ → List HeaderField
header_fields message = fields_of (sections message).field_lines

abbrev pub field_lines : HeaderField → List (List ℕ)
field_lines field = field.first ∷ field.continuations

-- ---- names

abbrev pub is_colon : ℕ → Bool
is_colon b = b == 58

-- what stands before the first colon of a field's first line, if it has one
abbrev pub field_name : List ℕ → Option (List ℕ)
field_name line = option_map (λ len. take len line) (position is_colon line)

abbrev pub is_among : List (List ℕ) → List ℕ → Bool
is_among names name = list_any (λ asked. str_eq_ignore_ascii_case asked name) names

-- the line has a name, and it is one of these
abbrev pub is_named : List (List ℕ) → List ℕ → Bool
is_named names line = option_map_or (is_among names) (field_name line) false

-- whether a field is asked for: one of these names, or one that has none of them
abbrev pub is_chosen : List (List ℕ) → (others : Bool) → HeaderField → Bool
is_chosen names others field = if others then not (is_named names field.first) else is_named names field.first

-- ---- what is asked for

abbrev pub chosen_fields : List (List ℕ) → (others : Bool) → List ℕ → List HeaderField
chosen_fields names others message = filter (is_chosen names others) (header_fields message)

-- the lines of the fields of these names, or of the others
abbrev pub chosen_lines : List (List ℕ) → (others : Bool) → List ℕ → List (List ℕ)
chosen_lines names others message = flat_map field_lines (chosen_fields names others message)

-- these lines, and the empty line
abbrev pub fields : List (List ℕ) → (others : Bool) → List ℕ → List ℕ
fields names others message = concat (chosen_lines names others message ++ (sections message).end)

-- what follows the colon, with the lines that continue the field
abbrev pub field_text : HeaderField → List ℕ
field_text field = after_first is_colon field.first ++ concat field.continuations

-- the texts of the fields of a name
abbrev pub field_texts : List ℕ → List ℕ → List (List ℕ)
field_texts name message = map field_text (chosen_fields (name ∷ []) false message)

-- Each line of the header is in one of three: the fields of some names, the other fields, the empty line.
abbrev pub EachLineOnce : Type 0
EachLineOnce = (message : List ℕ) (names : List (List ℕ)) (test : List ℕ → Bool) →
    count_by test (chosen_lines names false message) + count_by test (chosen_lines names true message)
    + count_by test (sections message).end
    ≡ count_by test (header_lines message)
