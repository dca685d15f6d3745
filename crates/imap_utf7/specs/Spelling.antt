-- Modified UTF-7 (RFC 3501, section 5.1.3; RFC 2152).
use Rattle.std.specs.Prelude.{ℕ, Bool, true, false, ◌==◌, ◌&&◌, nat_le, List, [], ◌∷◌, ◌++◌}
use Rattle.std.specs.Prelude.{bytes_eq, encode_utf8_all, Option, Some, None, if◌then◌else◌}
use Rattle.imap_utf7.specs.Shifts.{base64, characters, wide}

-- ---- as it is written

-- Printable ASCII characters are never shifted.
abbrev pub is_direct : (char : ℕ) → Bool
is_direct char = nat_le 32 char && nat_le char 126

-- `&` is written `&-`
abbrev pub direct : (char : ℕ) → List ℕ
direct char = if char == 38 then 38 ∷ 45 ∷ [] else char ∷ []

-- `&`, the octets in base64, and `-`
abbrev pub shifted : (octets : List ℕ) → List ℕ
shifted [] = []
shifted (octet ∷ octets) = 38 ∷ (base64 (octet ∷ octets) ++ 45 ∷ [])

-- Characters that are not direct are shifted, all that stand together as one. `run` are the octets of those
-- before, in UTF-16.
abbrev pub encoded_after : (run : List ℕ) → (text : List ℕ) → List ℕ
encoded_after run [] = shifted run
encoded_after run (char ∷ text) =
    if is_direct char then shifted run ++ (direct char ++ encoded_after [] text)
    else encoded_after (run ++ wide char) text

-- the characters in modified UTF-7
abbrev pub encoded : (text : List ℕ) → List ℕ
encoded text = encoded_after [] text

-- ---- as it is read

-- the characters for which the text between `&` and `-` stands
abbrev pub section_characters : (text : List ℕ) → List ℕ
section_characters [] = 38 ∷ []
section_characters (octet ∷ octets) = characters (octet ∷ octets)

-- The characters for which octets stand. `section` are those since `&` if the text is shifted.
abbrev pub read_after : (is_shifted : Bool) → (section : List ℕ) → List ℕ → List ℕ
read_after is_shifted section [] = []
read_after false section (octet ∷ octets) =
    if octet == 38 then read_after true [] octets else octet ∷ read_after false section octets
read_after true section (octet ∷ octets) =
    if octet == 45 then section_characters section ++ read_after false [] octets
    else read_after true (section ++ octet ∷ []) octets

abbrev pub read : List ℕ → List ℕ
read octets = read_after false [] octets

-- The text, in UTF-8, of which the octets are the spelling. They are none if the text that is read of them is
-- written in other octets.
abbrev pub decoded : List ℕ → Option (List ℕ)
decoded octets = if bytes_eq (encoded (read octets)) octets then Some (encode_utf8_all (read octets)) else None
