-- Laws of modified UTF-7.
use Rattle.std.specs.Prelude.{◌≡◌, ℕ, Bool, true, ◌==◌, ◌&&◌, not, List, chars, encode_utf8_all, IsUtf8, Some}
use Rattle.std.specs.List.{list_all}
use Rattle.std.specs.Str.{all_scalars}
use Rattle.imap_utf7.specs.Shifts.{is_octet}
use Rattle.imap_utf7.specs.Spelling.{decoded, encoded, is_direct}

-- What is written is read.
abbrev pub ReadsWritten : Type 0
ReadsWritten =
    (text : List ℕ) → all_scalars text ≡ true → decoded (encoded text) ≡ Some (encode_utf8_all text)

-- What is read is written in these octets and no others.
abbrev pub WritesRead : Type 0
WritesRead =
    (octets text : List ℕ) → list_all is_octet octets ≡ true → decoded octets ≡ Some text
    → IsUtf8 text × (encoded (chars text) ≡ octets)

-- No two texts are written in the same octets.
abbrev pub TellsApart : Type 0
TellsApart =
    (one other : List ℕ) → all_scalars one ≡ true → all_scalars other ≡ true
    → encoded one ≡ encoded other → one ≡ other

-- All octets are printable ASCII.
abbrev pub IsPrintable : Type 0
IsPrintable = (text : List ℕ) → all_scalars text ≡ true → list_all is_direct (encoded text) ≡ true

-- printable ASCII but `&`
abbrev pub is_plain : (char : ℕ) → Bool
is_plain char = is_direct char && not (char == 38)

-- A text of such characters is written as it is.
abbrev pub PlainStays : Type 0
PlainStays = (text : List ℕ) → list_all is_plain text ≡ true → encoded text ≡ text
