-- Names as they are shown: texts, and the levels of the hierarchy above them (RFC 9051, section 5.1.1).
use Rattle.std.specs.Prelude.{◌≡◌, ℕ, Bool, List, [], ◌∷◌, ◌++◌, map, bytes_eq, if◌then◌else◌}
use Rattle.std.specs.List.{Contains, flat_map, list_any}
use Rattle.std.specs.declared.cmp.Ordering.{Ordering}
use Rattle.std.specs.Ordering.{nat_cmp}
use Rattle.std.specs.Cmp.Lexicographic.{slice_cmp}
use Rattle.std.specs.FinMap as fin
use Rattle.imap_names.specs.Text.{is_delimiter}

abbrev pub Text : Type 0
Text = List ℕ

-- texts are in the order of their octets
abbrev pub text_cmp : Text → Text → Ordering
text_cmp = slice_cmp nat_cmp

-- the texts of a list in their order, each once: the keys of a finite map
abbrev pub entries_of : List Text → List (Text × Unit {0})
entries_of texts = map (λ text. (text, tt)) texts

abbrev pub in_order : List Text → List Text
in_order texts = fin.keys (fin.from_entries {R = text_cmp} (entries_of texts))

abbrev pub has : List Text → Text → Bool
has texts text = list_any (bytes_eq text) texts

-- what stands before each delimiter of a text: the names of the levels above
abbrev pub levels_above : Text → List Text
levels_above [] = []
levels_above (octet ∷ rest) =
    let deeper = map (λ level. octet ∷ level) (levels_above rest) in
    if is_delimiter octet then [] ∷ deeper else deeper

-- the levels above some of the names
abbrev pub levels : List Text → List Text
levels names = flat_map levels_above names

-- lower lies below upper
abbrev pub IsBelow : Text → Text → Type 0
IsBelow upper lower = (rest : Text) × (lower ≡ upper ++ 47 ∷ rest)

-- one of the names lies below
abbrev pub HasBelow : List Text → Text → Type 0
HasBelow names name = (lower : Text) × Contains names lower × IsBelow name lower
