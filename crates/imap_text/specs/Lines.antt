-- Lines (RFC 5322, section 2.1).
use Rattle.std.specs.Prelude.{ℕ, Bool, List, [], ◌∷◌, bytes_eq, eqb, if◌then◌else◌}
use Rattle.std.specs.List.{starts_with}
use Rattle.imap_lex.specs.Chars.{crlf}

-- an octet at the front of the first line
abbrev pub with_front : ℕ → List (List ℕ) → List (List ℕ)
with_front b [] = (b ∷ []) ∷ []
with_front b (line ∷ later) = (b ∷ line) ∷ later

-- Octets, cut after each CRLF. What stands after the last CRLF, if anything does, is a line too.
abbrev pub lines : List ℕ → List (List ℕ)
lines [] = []
lines (b ∷ []) = (b ∷ []) ∷ []
lines (b ∷ c ∷ rest) =
    if starts_with eqb (b ∷ c ∷ rest) crlf
    then (b ∷ c ∷ []) ∷ lines rest
    else with_front b (lines (c ∷ rest))

abbrev pub is_empty_line : List ℕ → Bool
is_empty_line line = bytes_eq line crlf
