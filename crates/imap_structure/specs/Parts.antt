-- The parts of a multipart (RFC 2046, section 5.1.1).
use Rattle.std.specs.Prelude.{◌≡◌, ◌<◌, ℕ, ◌-◌, Bool, true, false, ◌==◌, List, [], ◌∷◌, ◌++◌, length}
use Rattle.std.specs.Prelude.{take, drop, codes, eqb, if◌then◌else◌}
use Rattle.std.specs.List.{ends_with, list_all, starts_with}
use Rattle.imap_lex.specs.Chars.{crlf}
use Rattle.imap_text.specs.Lines.{lines}
use Rattle.imap_mime.specs.Lexical.{is_white}
use Rattle.imap_structure.specs.declared.delimiter.Delimiter.{Delimiter}
use Rattle.imap_structure.specs.declared.delimiter.Delimiter.TheVariants as delimiter

-- ---- lines

abbrev pub is_line_feed : ℕ → Bool
is_line_feed b = b == 10

-- without the CRLF at the end
abbrev pub without_end : List ℕ → List ℕ
without_end octets = if ends_with eqb octets crlf then take (length octets - 2) octets else octets

-- ---- delimiters

-- `--` and white space
abbrev pub is_end : (rest : List ℕ) → Bool
is_end rest = if starts_with eqb rest (codes "--") then list_all is_white (drop 2 rest) else false

-- what a line is with these octets after the boundary
abbrev pub delimiter_after : (rest : List ℕ) → Delimiter
delimiter_after rest =
    if is_end rest then delimiter.End
    else (if list_all is_white rest then delimiter.Part else delimiter.None)

-- what it is with these octets after `--`
abbrev pub delimiter_by : (boundary rest : List ℕ) → Delimiter
delimiter_by boundary rest =
    if starts_with eqb rest boundary then delimiter_after (drop (length boundary) rest) else delimiter.None

abbrev pub delimiter_of : (boundary line : List ℕ) → Delimiter
delimiter_of boundary line =
    if starts_with eqb line (codes "--") then delimiter_by boundary (drop 2 line) else delimiter.None

-- ---- parts

-- what a line is to a part, of which these octets have been read, and to the parts in the lines after it. The
-- CRLF before a delimiter belongs to it
abbrev pub parts_by : Delimiter → (part line : List ℕ) → (more : List ℕ → List (List ℕ)) → List (List ℕ)
parts_by delimiter.None part line more = more (part ++ line)
parts_by delimiter.Part part line more = without_end part ∷ more []
parts_by delimiter.End part line more = without_end part ∷ []

-- the part of which these octets have been read, and those after it
abbrev pub parts_within : (boundary : List ℕ) → (lines : List (List ℕ)) → (part : List ℕ) → List (List ℕ)
parts_within boundary [] part = part ∷ []
parts_within boundary (line ∷ later) part =
    parts_by (delimiter_of boundary line) part line (parts_within boundary later)

abbrev pub first_by : Delimiter → (within before : List (List ℕ)) → List (List ℕ)
first_by delimiter.None within before = before
first_by delimiter.Part within before = within
first_by delimiter.End within before = []

-- the parts after the first delimiter
abbrev pub parts_before : (boundary : List ℕ) → (lines : List (List ℕ)) → List (List ℕ)
parts_before boundary [] = []
parts_before boundary (line ∷ later) =
    first_by (delimiter_of boundary line) (parts_within boundary later []) (parts_before boundary later)

-- Without a boundary there are none.
abbrev pub found_parts : (boundary body : List ℕ) → List (List ℕ)
found_parts boundary body = if length boundary == 0 then [] else parts_before boundary (lines body)

abbrev pub or_empty : List (List ℕ) → List (List ℕ)
or_empty [] = [] ∷ []
or_empty (part ∷ parts) = part ∷ parts

-- the parts; one that is empty if there are none
abbrev pub parts_of : (boundary body : List ℕ) → List (List ℕ)
parts_of boundary body = or_empty (found_parts boundary body)

-- ---- the first part of octets that follow a delimiter

-- the parts that follow, unless the part is the last
abbrev pub further_parts : (boundary : List ℕ) → (is_last : Bool) → (later : List ℕ) → List (List ℕ)
further_parts boundary true later = []
further_parts boundary false later = parts_within boundary (lines later) []

pub record IsFirstPart (boundary octets part later : List ℕ) (is_last : Bool) : Type 0 where
  pub parts : parts_within boundary (lines octets) [] ≡ part ∷ further_parts boundary is_last later
  pub shorter : is_last ≡ false → length later < length octets

-- The octets up to `rest` belong to the first part.
pub record IsReadUpTo (boundary octets rest : List ℕ) : Type 0 where
  pub part : List ℕ
  pub whole : octets ≡ part ++ rest
  pub parts : parts_within boundary (lines octets) [] ≡ parts_within boundary (lines rest) part
