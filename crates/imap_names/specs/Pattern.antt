-- Patterns of LIST (RFC 9051, section 6.3.9), and the names that match them.
use Rattle.std.specs.Prelude.{◌≡◌, ℕ, ◌==◌, ◌||◌, Bool, true, false, List, [], ◌∷◌, ◌++◌, map, if◌then◌else◌}
use Rattle.std.specs.Prelude.{Option, Some, None}
use Rattle.std.specs.Char.{to_ascii_lowercase}
use Rattle.std.specs.List.{list_any}
use Rattle.std.specs.Str.{is_utf8}
use Rattle.imap_names.specs.declared.letters.Letter.{Letter}
use Rattle.imap_names.specs.declared.token.Token.{Token}
use Rattle.imap_names.specs.declared.token.Token.TheVariants.{Any, AnyInLevel, Octet}
use Rattle.imap_names.specs.Letters.{letters_of}
use Rattle.imap_nfc.specs.Nfc.{composed}
use Rattle.imap_names.specs.Text.{is_delimiter}

-- `*`
abbrev pub star : ℕ
star = 42

-- `%`
abbrev pub percent : ℕ
percent = 37

abbrev pub is_wildcard : ℕ → Bool
is_wildcard octet = octet == star || octet == percent

-- what an octet of a pattern is
abbrev pub token_of : ℕ → Token
token_of octet = if octet == star then Any else if octet == percent then AnyInLevel else Octet octet

-- the pattern of a command is what follows its reference. Octets that aren't UTF-8 are no pattern
abbrev pub pattern_read : List ℕ → List ℕ → Option (List Token)
pattern_read reference pattern =
    if is_utf8 (reference ++ pattern) then Some (map token_of (composed (reference ++ pattern))) else None

-- an octet of a pattern stands for this letter
abbrev pub is_letter : ℕ → Letter → Bool
is_letter octet letter =
    if letter.any_case then to_ascii_lowercase octet == to_ascii_lowercase letter.octet
    else octet == letter.octet

abbrev pub ends_level : Letter → Bool
ends_level letter = is_delimiter letter.octet

-- what one token stands for: any letters, any but the delimiter, or one letter
abbrev pub Fits : Token → List Letter → Type 0
Fits Any piece = Unit {0}
Fits AnyInLevel piece = list_any ends_level piece ≡ false
Fits (Octet octet) piece = (letter : Letter) × (piece ≡ letter ∷ []) × (is_letter octet letter ≡ true)

-- the letters are a piece that the token stands for, and what comes after it
pub record Cut (token : Token) (After : List Letter → Type 0) (letters : List Letter) : Type 0 where
  pub piece : List Letter
  pub rest : List Letter
  pub are : letters ≡ piece ++ rest
  pub fits : Fits token piece
  pub after : After rest

-- letters match if they can be cut into one piece for each token
abbrev pub Matches : List Token → List Letter → Type 0
Matches [] letters = letters ≡ []
Matches (token ∷ more) letters = Cut token (Matches more) letters

-- a shown name matches a pattern
abbrev pub IsMatch : List Token → List ℕ → Type 0
IsMatch pattern text = Matches pattern (letters_of text)

-- the pattern's last token is `%`
abbrev pub EndsInPercent : List Token → Type 0
EndsInPercent pattern = (front : List Token) × (pattern ≡ front ++ AnyInLevel ∷ [])
