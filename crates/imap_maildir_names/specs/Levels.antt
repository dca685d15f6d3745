-- The folders of a level of a name, character by character.
use Rattle.std.specs.Prelude.{ℕ, zero, suc, ◌+◌, ◌/◌, ◌%◌, ◌==◌, Bool, false, ◌&&◌, ◌||◌, nat_lt, nat_le, nat_eq, List, [], ◌∷◌}
use Rattle.std.specs.Prelude.{◌++◌, length, bytes_eq, chars, codes, encode_utf8_all, if◌then◌else◌}
use Rattle.std.specs.Char.{digit_char, to_ascii_uppercase}
use Rattle.std.specs.List.{starts_with}

-- ---- a letter

abbrev pub digit : (number : ℕ) → ℕ
digit number = to_ascii_uppercase (digit_char number)

-- `%` and two hexadecimal digits
abbrev pub mark : (char : ℕ) → List ℕ
mark char = 37 ∷ digit (char / 16) ∷ digit (char % 16) ∷ []

abbrev pub is_marked : (is_first : Bool) → (char : ℕ) → Bool
is_marked is_first char = char == 37 || (is_first && nat_lt char 128)

-- as the first letter of a folder's name, or as another
abbrev pub letter : (is_first : Bool) → (char : ℕ) → List ℕ
letter is_first char = if is_marked is_first char then mark char else char ∷ []

-- in UTF-8
abbrev pub octets : (text : List ℕ) → ℕ
octets text = length (encode_utf8_all text)

-- ---- a level in one folder

-- the first letter is marked or not
abbrev pub written : (is_first : Bool) → (level : List ℕ) → List ℕ
written is_first [] = []
written is_first (char ∷ level) = letter is_first char ++ written false level

-- a level that is hidden, or has the name of what a Maildir has
abbrev pub is_special : (level : List ℕ) → Bool
is_special level =
    starts_with nat_eq level (codes ".") || bytes_eq level (codes "cur") || bytes_eq level (codes "new")
    || bytes_eq level (codes "tmp") || bytes_eq level (codes "dovecot-keywords")

abbrev pub whole : (level : List ℕ) → List ℕ
whole level = written (is_special level) (chars level)

-- ---- a level in several folders

-- the most octets of a folder's name (NAME_MAX of Linux)
abbrev pub max_name_octets : ℕ
max_name_octets = 255

-- after them there is room for another letter and a `%`
abbrev pub max_used : ℕ
max_used = 250

-- a name that is full ends with `%`, and the next begins
abbrev pub ending : (used : ℕ) → List ℕ
ending used = if nat_lt max_used used then 37 ∷ 47 ∷ [] else []

-- how many octets the name has then
abbrev pub kept : (used : ℕ) → ℕ
kept used = if nat_lt max_used used then 0 else used

abbrev pub piece : (used : ℕ) → (char : ℕ) → List ℕ
piece used char = ending used ++ letter (kept used == 0) char

abbrev pub used_after : (used : ℕ) → (char : ℕ) → ℕ
used_after used char = kept used + octets (letter (kept used == 0) char)

-- letters after a folder's name that has `used` octets so far
abbrev pub pieces : (used : ℕ) → (level : List ℕ) → List ℕ
pieces used [] = []
pieces used (char ∷ level) = piece used char ++ pieces (used_after used char) level

-- ---- a level

abbrev pub level_text : (level : List ℕ) → List ℕ
level_text level = if nat_le (octets (whole level)) max_name_octets then whole level else pieces 0 (chars level)

-- a slash and the folders of the level, in UTF-8
abbrev pub level_path : (level : List ℕ) → List ℕ
level_path level = encode_utf8_all (47 ∷ level_text level)
