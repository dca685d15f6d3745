-- What a client reads of a name or a set that is printed.
use Rattle.std.specs.Prelude.{◌≡◌, ℕ, Bool, true, false, ◌==◌, ◌||◌, not, List, [], ◌∷◌, ◌++◌, map, Some}
use Rattle.std.specs.Char.{is_ascii_digit}
use Rattle.std.specs.List.{list_all}
use Rattle.imap_syntax.specs.declared.set.SeqNumber.TheVariants as number
use Rattle.imap_syntax.specs.declared.set.SeqRange.{SeqRange}
use Rattle.imap_lex.specs.Chars.{is_astring_char}
use Rattle.imap_syntax.specs.Lexical.{astring}
use Rattle.imap_syntax.specs.Sets.{seq_set}
use Rattle.imap_print.specs.Sets.{Range, runs, set_text}
use Rattle.imap_print.specs.Strings.{name_text}

-- neither NUL, CR nor LF, which no quoted string may have
abbrev pub may_be_quoted : ℕ → Bool
may_be_quoted octet = not (octet == 0 || octet == 13 || octet == 10)

-- an atom ends before it
abbrev pub IsDelimited : List ℕ → Type 0
IsDelimited [] = Unit {0}
IsDelimited (octet ∷ rest) = is_astring_char octet ≡ false

-- the grammar's `astring` reads the name back, and leaves what follows it
abbrev pub NamesAreReadBack : Type 0
NamesAreReadBack =
    (name rest : List ℕ) → list_all may_be_quoted name ≡ true → IsDelimited rest
    → astring.read (name_text name ++ rest) ≡ Some (name, rest)

-- a set ends before it
abbrev pub EndsSet : List ℕ → Type 0
EndsSet [] = Unit {0}
EndsSet (octet ∷ rest) = (is_ascii_digit octet || octet == 58 || octet == 44) ≡ false

abbrev pub seq_range_of : Range → SeqRange
seq_range_of range = record { first = number.Number range.first; last = number.Number range.last }

-- the grammar's `sequence-set` reads the ranges of the set, and leaves what follows them
abbrev pub SetIsReadBack : List ℕ → Type 0
SetIsReadBack numbers =
    (rest : List ℕ) → EndsSet rest
    → seq_set.read (set_text numbers ++ rest) ≡ Some (map seq_range_of (runs numbers), rest)
