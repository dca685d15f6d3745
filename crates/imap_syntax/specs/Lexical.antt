-- The words and strings of which commands are made (RFC 9051, section 9).
use Rattle.std.specs.Prelude.{◌≡◌, ℕ, Bool, true, false, cond, ◌==◌, ◌&&◌, ◌||◌, ◌⊎◌, not, nat_lt}
use Rattle.std.specs.Prelude.{List, [], ◌∷◌, Option, Some, None, option_map}
use Rattle.std.specs.Char.{is_ascii_digit, is_ascii_alphabetic}
use Rattle.std.specs.List.{list_any}
pub use Rattle.imap_lex.specs.Chars.{is_astring_char, is_tag_char}
pub use Rattle.imap_lex.specs.Mark.{decimal_from}
use Rattle.imap_syntax.specs.Rule.{Rule, give, ◌>>=◌, ◌>>◌, ◌<|>◌, octet, some_of, when, flag, counted}

-- ATOM-CHAR: ASTRING-CHAR except ]
abbrev pub is_atom_char : ℕ → Bool
is_atom_char b = is_astring_char b && not (b == 93)

-- the characters of the words of FETCH and of the names of months: letters, digits and .
abbrev pub is_word_char : ℕ → Bool
is_word_char b = is_ascii_alphabetic b || is_ascii_digit b || b == 46

-- SP
abbrev pub space : Rule (Unit {0})
space = octet 32

-- CRLF
abbrev pub crlf : Rule (Unit {0})
crlf = do
  octet 13
  octet 10

-- quoted-specials: " and \
abbrev pub is_quoted_special : ℕ → Bool
is_quoted_special b = b == 34 || b == 92

-- TEXT-CHAR except quoted-specials, or an octet from 0x80 on: neither NUL, CR, LF nor quoted-specials
abbrev pub is_text_char : ℕ → Bool
is_text_char b = not (b == 0 || b == 13 || b == 10) && not (is_quoted_special b)

-- QUOTED-CHAR, and more after it: the octet itself, or a backslash and the octet if it is special
abbrev pub IsQuotedChar : (value : ℕ) → (more text : List ℕ) → Type 0
IsQuotedChar b more text =
    ((is_text_char b ≡ true) × (text ≡ b ∷ more)) ⊎ ((is_quoted_special b ≡ true) × (text ≡ 92 ∷ b ∷ more))

-- *QUOTED-CHAR DQUOTE
abbrev pub IsQuoted : (value text : List ℕ) → Type 0
IsQuoted [] text = text ≡ 34 ∷ []
IsQuoted (b ∷ value) text = (more : List ℕ) × IsQuoted value more × IsQuotedChar b more text

abbrev pub with_first : ℕ → Option (List ℕ × List ℕ) → Option (List ℕ × List ℕ)
with_first b read = option_map (λ found. (b ∷ found.0, found.1)) read

abbrev pub quoted_read : (escaped : Bool) → List ℕ → Option (List ℕ × List ℕ)
quoted_read escaped [] = None
quoted_read true (b ∷ rest) = cond (is_quoted_special b) (with_first b (quoted_read false rest)) None
quoted_read false (b ∷ rest) =
    cond (b == 34) (Some ([], rest))
    (cond (b == 92) (quoted_read true rest)
    (cond (is_text_char b) (with_first b (quoted_read false rest)) None))

abbrev pub quoted_end : Rule (List ℕ)
quoted_end = record {
  spells = IsQuoted;
  read = quoted_read false;
}

-- `quoted`: DQUOTE *QUOTED-CHAR DQUOTE
abbrev pub quoted : Rule (List ℕ)
quoted = do
  octet 34
  quoted_end

-- ---- numbers

-- the number that the digits stand for
abbrev pub decimal : List ℕ → ℕ
decimal digits = decimal_from 0 digits

-- low to high
abbrev pub number : (low high : ℕ) → Rule ℕ
number low high = do
  digits ← some_of is_ascii_digit
  when (not (nat_lt (decimal digits) low) && not (nat_lt high (decimal digits))) (decimal digits)

abbrev pub begins_with_zero : List ℕ → Bool
begins_with_zero [] = false
begins_with_zero (d ∷ digits) = d == 48

-- `nz-number`: 1 to high, without leading zeros
abbrev pub nz_number : (high : ℕ) → Rule ℕ
nz_number high = do
  digits ← some_of is_ascii_digit
  when (not (begins_with_zero digits) && not (nat_lt high (decimal digits))) (decimal digits)

-- ---- literals

abbrev pub has_nul : List ℕ → Bool
has_nul octets = list_any (λ b. b == 0) octets

-- { number [+] } CRLF, for the number (RFC 7888 for +)
abbrev pub literal_head : Rule ℕ
literal_head = do
  octet 123
  n ← number 0 18446744073709551615
  plus ← flag 43
  octet 125
  crlf
  give n

-- `literal`: the announced number of octets, without NUL
abbrev pub literal : Rule (List ℕ)
literal = do
  n ← literal_head
  octets ← counted n
  when (not (has_nul octets)) octets

-- `string`
unfoldable pub string : Rule (List ℕ)
string = quoted <|> literal

-- `astring`: 1*ASTRING-CHAR / string
unfoldable pub astring : Rule (List ℕ)
astring = some_of is_astring_char <|> string
