-- How names are printed (RFC 9051, section 9, `astring`).
use Rattle.std.specs.Prelude.{ℕ, Bool, ◌&&◌, not, List, codes, if◌then◌else◌}
use Rattle.std.specs.Str.{str_eq_ignore_ascii_case}
use Rattle.imap_lex.specs.Chars.{is_astring_char}
use Rattle.imap_syntax.specs.Writing.{some_of}
use Rattle.imap_syntax.specs.Written.{quoted_text}

-- an atom string that doesn't read as NIL needs no quotes
abbrev pub is_bare : List ℕ → Bool
is_bare name = (some_of is_astring_char).fits name && not (str_eq_ignore_ascii_case name (codes "NIL"))

abbrev pub name_text : List ℕ → List ℕ
name_text name = if is_bare name then name else quoted_text name
