-- The octets of a name as text.
use Rattle.std.specs.Prelude.{ℕ, ◌==◌, Bool, List, chars}
use Rattle.std.specs.Char.{is_control}
use Rattle.std.specs.List.{list_any, slice_split}

-- '/', which parts the levels of hierarchy in every namespace
abbrev pub is_delimiter : ℕ → Bool
is_delimiter octet = octet == 47

-- what stands between the delimiters of a text
abbrev pub components_of : List ℕ → List (List ℕ)
components_of text = slice_split is_delimiter text

-- some character is a control, of C0, DEL or C1
abbrev pub has_control : List ℕ → Bool
has_control text = list_any is_control (chars text)
