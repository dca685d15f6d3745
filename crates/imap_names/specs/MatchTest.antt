-- Tests of what `Pattern` states.
use Rattle.std.specs.Prelude.{ℕ, Bool, true, false, not, ◌&&◌, ◌||◌, List, [], ◌∷◌}
use Rattle.imap_names.specs.declared.letters.Letter.{Letter}
use Rattle.imap_names.specs.declared.token.Token.{Token}
use Rattle.imap_names.specs.declared.token.Token.TheVariants.{Any, AnyInLevel, Octet}
use Rattle.imap_names.specs.Letters.{letters_of}
use Rattle.imap_names.specs.Pattern.{is_letter, ends_level}

-- some tail of the letters passes
abbrev pub some_tail : (List Letter → Bool) → List Letter → Bool
some_tail passes [] = passes []
some_tail passes (letter ∷ letters) = passes (letter ∷ letters) || some_tail passes letters

-- some tail passes, and no delimiter comes before it
abbrev pub some_tail_in_level : (List Letter → Bool) → List Letter → Bool
some_tail_in_level passes [] = passes []
some_tail_in_level passes (letter ∷ letters) =
    passes (letter ∷ letters) || (not (ends_level letter) && some_tail_in_level passes letters)

-- the octet stands for the first letter, and the rest passes
abbrev pub first_is : ℕ → (List Letter → Bool) → List Letter → Bool
first_is octet passes [] = false
first_is octet passes (letter ∷ letters) = is_letter octet letter && passes letters

abbrev pub has_no_letter : List Letter → Bool
has_no_letter [] = true
has_no_letter (letter ∷ letters) = false

abbrev pub letters_match : List Token → List Letter → Bool
letters_match [] letters = has_no_letter letters
letters_match (Any ∷ more) letters = some_tail (letters_match more) letters
letters_match (AnyInLevel ∷ more) letters = some_tail_in_level (letters_match more) letters
letters_match (Octet octet ∷ more) letters = first_is octet (letters_match more) letters

-- whether a shown name matches a pattern
abbrev pub is_match : List Token → List ℕ → Bool
is_match pattern text = letters_match pattern (letters_of text)

abbrev pub is_percent : Token → Bool
is_percent Any = false
is_percent AnyInLevel = true
is_percent (Octet octet) = false

-- whether the last token is `%`
abbrev pub ends_in_percent : List Token → Bool
ends_in_percent [] = false
ends_in_percent (token ∷ []) = is_percent token
ends_in_percent (token ∷ next ∷ more) = ends_in_percent (next ∷ more)
