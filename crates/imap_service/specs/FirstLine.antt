-- How a connection of IMAP begins (RFC 9051, section 9, `command`).
use Rattle.std.specs.Prelude.{ℕ, ◌==◌, ◌&&◌, ◌||◌, Bool, true, false, List, [], ◌∷◌, ◌++◌, length}
use Rattle.std.specs.Prelude.{take, drop, nat_lt, not, if◌then◌else◌}
use Rattle.std.specs.List.{list_any, prefix_len}
use Rattle.std.specs.Str.{str_eq_ignore_ascii_case}
use Rattle.imap_lex.specs.Chars.{is_tag_char}
use Rattle.imap_lex.specs.CommandTag.{tag_length}
use Rattle.imap_service.specs.declared.command_words.TheConstants.{COMMAND_WORDS, LONGEST_WORD}
use Rattle.imap_service.specs.declared.first_line.Opening.{Opening}
use Rattle.imap_service.specs.declared.first_line.Opening.TheVariants as opening
use Rattle.imap_service.specs.declared.first_line.Place.{Place}
use Rattle.imap_service.specs.declared.first_line.Place.TheVariants as place

-- the word of a command, in any case
abbrev pub is_command_word : List ℕ → Bool
is_command_word word = list_any (λ known. str_eq_ignore_ascii_case word known.now) COMMAND_WORDS.now

-- space, CR or LF
abbrev pub ends_word : ℕ → Bool
ends_word b = b == 32 || b == 13 || b == 10

-- ---- what a line begins

-- after the word: what ended it, if that has come
abbrev pub after_word : (word rest : List ℕ) → Opening
after_word word [] = opening.Open
after_word word (b ∷ rest) = if is_command_word word then opening.Command else opening.Refused

abbrev pub word_length : List ℕ → ℕ
word_length octets = prefix_len (λ b. not (ends_word b)) octets

abbrev pub of_word : (count : ℕ) → (octets : List ℕ) → Opening
of_word count octets =
    if nat_lt LONGEST_WORD count
    then opening.Refused
    else after_word (take count octets) (drop count octets)

abbrev pub after_tag : List ℕ → Opening
after_tag [] = opening.Open
after_tag (b ∷ rest) = if b == 32 then of_word (word_length rest) rest else opening.Refused

-- A tag, one space and the word of a command begin one, once what ends the word has come. A line in
-- whose place something else stands begins none, and so does one whose word is longer than any.
abbrev pub opening_of : List ℕ → Opening
opening_of [] = opening.Open
opening_of (b ∷ rest) =
    if is_tag_char b
    then after_tag (drop (tag_length rest) rest)
    else opening.Refused

-- ---- octet by octet

pub record LineState : Type 0 where
  pub place : Place
  pub word : List ℕ

abbrev pub state : Place → List ℕ → LineState
state place word = record { place = place; word = word }

abbrev pub first_state : LineState
first_state = state place.Start []

abbrev pub tag_place : (begun : Bool) → ℕ → Place
tag_place begun b =
    if is_tag_char b
    then place.Tag
    else if begun && b == 32 then place.Word
    else place.Refused

abbrev pub place_after : (word : List ℕ) → Place
place_after word = if is_command_word word then place.Command else place.Refused

abbrev pub word_state : LineState → ℕ → LineState
word_state s b =
    if ends_word b then state (place_after s.word) s.word
    else if nat_lt (length s.word) LONGEST_WORD then state s.place (s.word ++ b ∷ [])
    else state place.Refused s.word

abbrev pub octet_state : Place → LineState → ℕ → LineState
octet_state place.Start s b = state (tag_place false b) s.word
octet_state place.Tag s b = state (tag_place true b) s.word
octet_state place.Word s b = word_state s b
octet_state place.Command s b = s
octet_state place.Refused s b = s

abbrev pub after_octet : LineState → ℕ → LineState
after_octet s b = octet_state s.place s b

abbrev pub after_octets : LineState → List ℕ → LineState
after_octets s [] = s
after_octets s (b ∷ octets) = after_octets (after_octet s b) octets

abbrev pub opening_at : Place → Opening
opening_at place.Start = opening.Open
opening_at place.Tag = opening.Open
opening_at place.Word = opening.Open
opening_at place.Command = opening.Command
opening_at place.Refused = opening.Refused
