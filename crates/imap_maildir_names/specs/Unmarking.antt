-- The path of a folder, read character by character.
use Rattle.std.specs.Prelude.{◌≡◌, ℕ, ◌+◌, ◌*◌, ◌==◌, ◌&&◌, nat_lt, List, [], ◌∷◌, ◌++◌, encode_utf8_all, string_bytes}
use Rattle.std.specs.Prelude.{if◌then◌else◌, Option, Some, None}
use Rattle.std.specs.Char.{digit_value}
use Rattle.imap_maildir_names.specs.declared.unmarking.Held.{Held}
use Rattle.imap_maildir_names.specs.declared.unmarking.Held.TheVariants.{Nothing, Percent, Digit}
use Rattle.imap_maildir_names.specs.declared.unmarking.Unmarking.{Unmarking}

-- the ASCII letter of two hexadecimal digits
abbrev pub letter_of : (high low : ℕ) → Option ℕ
letter_of high low =
    if nat_lt (digit_value high) 8 && nat_lt (digit_value low) 16
    then Some (digit_value high * 16 + digit_value low) else None

-- ---- after what stands for itself

abbrev pub plain : (char : ℕ) → List ℕ
plain char = if char == 37 then [] else char ∷ []

abbrev pub held_after : (char : ℕ) → Held
held_after char = if char == 37 then Percent else Nothing

-- ---- a character after what is held

-- the letter that was read, or else what was held stands for itself
abbrev pub letter_or : (high char : ℕ) → Option ℕ → List ℕ
letter_or high char (Some letter) = letter ∷ []
letter_or high char None = 37 ∷ high ∷ plain char

abbrev pub held_or : (char : ℕ) → Option ℕ → Held
held_or char (Some letter) = Nothing
held_or char None = held_after char

-- what is read
abbrev pub out : Held → (char : ℕ) → List ℕ
out Nothing char = plain char
out Percent char = if char == 47 then [] else if nat_lt (digit_value char) 16 then [] else 37 ∷ plain char
out (Digit high) char = letter_or high char (letter_of high char)

-- what is held then
abbrev pub next : Held → (char : ℕ) → Held
next Nothing char = held_after char
next Percent char =
    if char == 47 then Nothing else if nat_lt (digit_value char) 16 then Digit char else held_after char
next (Digit high) char = held_or char (letter_of high char)

-- what is held stands for itself at the end
abbrev pub rest : Held → List ℕ
rest Nothing = []
rest Percent = 37 ∷ []
rest (Digit high) = 37 ∷ high ∷ []

-- ---- all characters

abbrev pub unmarked_after : Held → (text : List ℕ) → List ℕ
unmarked_after held [] = rest held
unmarked_after held (char ∷ text) = out held char ++ unmarked_after (next held char) text

abbrev pub unmarked : (text : List ℕ) → List ℕ
unmarked text = unmarked_after Nothing text

-- what is read once these characters and then no more have come
abbrev pub all_read : Unmarking → List ℕ → List ℕ
all_read u text = string_bytes u.text ++ encode_utf8_all (unmarked_after u.held text)

-- What more characters come to after `new`, that `front` and the same come to after `old`.
abbrev pub GoesOn : (front : List ℕ) → (old new : Unmarking) → Type 0
GoesOn front old new = (text : List ℕ) → all_read new text ≡ all_read old (front ++ text)
