-- The letters of a shown name, that a pattern is compared with.
use Rattle.std.specs.Prelude.{ℕ, ◌-◌, true, false, ◌&&◌, nat_le, nat_lt, List, [], ◌∷◌, ◌++◌, length, map}
use Rattle.std.specs.Prelude.{take, drop, if◌then◌else◌}
use Rattle.std.specs.List.{before_first}
use Rattle.imap_names.specs.declared.letters.Letter.{Letter}
use Rattle.imap_names.specs.Reading.{parts_of}
use Rattle.imap_names.specs.Text.{is_delimiter}
use Rattle.imap_names.specs.Valid.{is_inbox_word}

-- octets whose case counts
abbrev pub plain : List ℕ → List Letter
plain octets = map (λ octet. record { octet = octet; any_case = false }) octets

-- octets whose ASCII case doesn't count
abbrev pub caseless : List ℕ → List Letter
caseless octets = map (λ octet. record { octet = octet; any_case = true }) octets

-- the first component of a path, if it is INBOX (RFC 9051, section 5.1)
abbrev pub inbox_front : List ℕ → List ℕ
inbox_front path =
    if is_inbox_word (before_first is_delimiter path) then before_first is_delimiter path else []

-- what a path begins with is compared without case, if it is INBOX
abbrev pub path_letters : List ℕ → List Letter
path_letters path = caseless (inbox_front path) ++ plain (drop (length (inbox_front path)) path)

-- the path of a shown name comes after the prefix of its namespace
abbrev pub path_in : List ℕ → List ℕ
path_in text = (parts_of text).path

abbrev pub letters_of : List ℕ → List Letter
letters_of text = plain (take (length text - length (path_in text)) text) ++ path_letters (path_in text)

-- the letters of octets, of which those at the places from `begin` up to `end` are compared without case
abbrev pub lettered : ℕ → ℕ → List ℕ → List Letter
lettered begin end [] = []
lettered begin end (octet ∷ octets) =
    record { octet = octet; any_case = nat_le begin 0 && nat_lt 0 end }
    ∷ lettered (begin - 1) (end - 1) octets

-- where there is no letter
abbrev pub blank : Letter
blank = record { octet = 0; any_case = false }
