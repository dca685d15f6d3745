-- Tags (RFC 9051, section 9: `tag`, and `command`, which begins with `tag SP`).
use Rattle.std.specs.Prelude.{◌≡◌, ◌==◌, not, ℕ, ◌&&◌, ◌||◌, Bool, true, List, [], ◌∷◌, nat_lt, eqb}
use Rattle.std.specs.Prelude.{if◌then◌else◌, length, take, drop, Option, Some, None}
use Rattle.std.specs.List.{prefix_len, starts_with, list_all}
use Rattle.imap_lex.specs.Chars.{crlf, is_tag_char}

-- one tag character or more
abbrev pub is_tag : List ℕ → Bool
is_tag octets = not (length octets == 0) && list_all is_tag_char octets

abbrev pub IsTag : List ℕ → Type 0
IsTag octets = is_tag octets ≡ true

-- these octets as a tag
abbrev pub tag_read : List ℕ → Option (List ℕ)
tag_read octets = if is_tag octets then Some octets else None

-- how many tag characters stand at the front
abbrev pub tag_length : List ℕ → ℕ
tag_length octets = prefix_len is_tag_char octets

-- SP or CRLF stands at the front.
abbrev pub ends_word : List ℕ → Bool
ends_word octets = starts_with eqb octets (32 ∷ []) || starts_with eqb octets crlf

-- The tag with which a command begins, SP or CRLF after it. CRLF makes no difference to a
-- command that is dropped for a literal: its first line ends with a mark, and `{` is no tag
-- character, so only SP can follow the tag.
abbrev pub tag_of : List ℕ → Option (List ℕ)
tag_of octets =
    if nat_lt 0 (tag_length octets) && ends_word (drop (tag_length octets) octets)
    then Some (take (tag_length octets) octets)
    else None
