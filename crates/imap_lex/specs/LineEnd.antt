-- How a piece of a stream goes on with a line.
use Rattle.std.specs.Prelude.{◌≡◌, if◌then◌else◌, Option, Some, None, option_map, ◌+◌, ℕ, ◌-◌, ◌<◌, ◌≤◌}
use Rattle.std.specs.Prelude.{true, false, List, [], ◌∷◌, ◌++◌, eqb, length, take}
use Rattle.std.specs.List.{ends_with, starts_with}
use Rattle.imap_lex.specs.declared.line.LineEnd.{LineEnd}
use Rattle.imap_lex.specs.declared.line.LineEnd.TheVariants.{After, Missing, TooLong}
use Rattle.imap_lex.specs.Framing.{crlf}

-- the length of the line with which octets begin, its CRLF counted
abbrev pub line_length : List ℕ → Option ℕ
line_length [] = None
line_length (b ∷ bs) =
    if starts_with eqb (b ∷ bs) crlf then Some 2 else option_map (λ len. len + 1) (line_length bs)

-- No CRLF comes with any of these octets after `front`.
abbrev pub IsUnended : List ℕ → List ℕ → Type 0
IsUnended front [] = Unit {0}
IsUnended front (b ∷ bs) = (ends_with eqb (front ++ b ∷ []) crlf ≡ false) × IsUnended (front ++ b ∷ []) bs

-- the first CRLF ends after `len` octets of the piece
pub record IsEnd (front piece : List ℕ) (len : ℕ) : Type 0 where
  pub some : 0 < len
  pub within : len ≤ length piece
  pub first : IsUnended front (take (len - 1) piece)
  pub ends : ends_with eqb (front ++ take len piece) crlf ≡ true

-- the end of the line in the piece after `front`, if the line may have `room` octets more
abbrev pub IsLineEnd : (front : List ℕ) (room : ℕ) (piece : List ℕ) → LineEnd → Type 0
IsLineEnd front room piece (After len) = IsEnd front piece len × (len ≤ room)
IsLineEnd front room piece Missing = IsUnended front piece × (length piece ≤ room)
IsLineEnd front room piece TooLong = IsUnended front (take room piece) × (room < length piece)
