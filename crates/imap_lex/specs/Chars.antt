-- Characters of commands (RFC 9051, section 9).
use Rattle.std.specs.Prelude.{ℕ, Bool, ◌==◌, ◌&&◌, ◌||◌, List, [], ◌∷◌, not, nat_lt}

-- CR and LF
abbrev pub crlf : List ℕ
crlf = 13 ∷ 10 ∷ []

-- ASTRING-CHAR: what ASCII prints, but for the space and ( ) { % * " \
abbrev pub is_astring_char : ℕ → Bool
is_astring_char b =
    nat_lt 32 b && nat_lt b 127
    && not (b == 40 || b == 41 || b == 123 || b == 37 || b == 42 || b == 34 || b == 92)

-- the characters of a tag: ASTRING-CHAR except +
abbrev pub is_tag_char : ℕ → Bool
is_tag_char b = is_astring_char b && not (b == 43)
