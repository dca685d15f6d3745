-- Names of header fields (RFC 9051, section 9, `header-fld-name`).
use Rattle.std.specs.Prelude.{◌≡◌, ℕ, true, List, Option, Some, None, if◌then◌else◌}
use Rattle.imap_syntax.specs.Rule.{Rule, ◌>>=◌, when}
use Rattle.imap_syntax.specs.Lexical as lexical
use Rattle.imap_syntax.specs.Writing.{Writing}
use Rattle.imap_syntax.specs.Written.{is_quotable, astring}

-- neither NUL, CR nor LF stands in it
abbrev pub IsFieldName : List ℕ → Type 0
IsFieldName name = is_quotable name ≡ true

-- these octets as a name
abbrev pub field_name_read : List ℕ → Option (List ℕ)
field_name_read octets = if is_quotable octets then Some octets else None

-- an astring without CR and LF; no astring has NUL
abbrev pub field_name : Rule (List ℕ)
field_name = do
  name ← lexical.astring
  when (is_quotable name) name

-- how a name is written: as an astring
abbrev pub written_name : Writing (List ℕ)
written_name = record { fits = is_quotable; text = astring.text }
