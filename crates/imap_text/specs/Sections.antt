-- Header and text of a message (RFC 9051, section 6.4.5.1, HEADER and TEXT).
use Rattle.std.specs.Prelude.{◌≡◌, ◌≤◌, ◌⊎◌, ℕ, List, [], ◌∷◌, ◌++◌, length, take, drop, if◌then◌else◌}
use Rattle.std.specs.List.{concat}
use Rattle.imap_lex.specs.Chars.{crlf}
use Rattle.imap_text.specs.Lines.{lines, is_empty_line}

-- the lines before the first empty one; this line, if there is one; the lines after it
pub record Sections : Type 0 where
  pub field_lines : List (List ℕ)
  pub end : List (List ℕ)
  pub text_lines : List (List ℕ)

abbrev pub with_field_line : List ℕ → Sections → Sections
with_field_line line s = record { field_lines = line ∷ s.field_lines; end = s.end; text_lines = s.text_lines }

abbrev pub sections_of : List (List ℕ) → Sections
sections_of [] = record { field_lines = []; end = []; text_lines = [] }
sections_of (line ∷ later) =
    if is_empty_line line
    then record { field_lines = []; end = line ∷ []; text_lines = later }
    else with_field_line line (sections_of later)

abbrev pub sections : List ℕ → Sections
sections message = sections_of (lines message)

-- the lines up to the first empty one, with it; all lines, if none is empty
abbrev pub header_lines : List ℕ → List (List ℕ)
header_lines message = (sections message).field_lines ++ (sections message).end

abbrev pub header : List ℕ → List ℕ
header message = concat (header_lines message)

abbrev pub text : List ℕ → List ℕ
text message = concat (sections message).text_lines

-- at most `count` octets from place `origin` (RFC 9051, section 6.4.5.1, `<partial>`)
abbrev pub partial : List ℕ → (origin count : ℕ) → List ℕ
partial octets origin count = take count (drop origin octets)

-- Header and text together are the message.
abbrev pub HeaderAndText : Type 0
HeaderAndText = (message : List ℕ) → header message ++ text message ≡ message

-- CRLF at the start, or a CRLF right after a CRLF, at the end of the octets
abbrev pub EndsWithEmptyLine : List ℕ → Type 0
EndsWithEmptyLine octets = (octets ≡ crlf) ⊎ ((front : List ℕ) × (octets ≡ front ++ (crlf ++ crlf)))

-- The header is the shortest beginning of the message that ends with an empty line, or the message if none
-- does.
pub record IsShortest (message header : List ℕ) : Type 0 where
  pub ends : EndsWithEmptyLine header ⊎ (header ≡ message)
  pub shortest : (front back : List ℕ) → message ≡ front ++ back → EndsWithEmptyLine front →
      length header ≤ length front

abbrev pub HeadersAreShortest : Type 0
HeadersAreShortest = (message : List ℕ) → IsShortest message (header message)
