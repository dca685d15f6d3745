-- How strings and addresses are told (RFC 3501, section 9; RFC 9051, section 7.5.2).
use Rattle.std.specs.Prelude.{ℕ, Bool, ◌&&◌, nat_lt, List, [], ◌∷◌, ◌++◌, length, codes, flat_map}
use Rattle.std.specs.Prelude.{Option, Some, None, if◌then◌else◌}
use Rattle.std.specs.List.{list_all}
use Rattle.imap_syntax.specs.Written.{is_quotable, literal_text, max_announced_octets, quoted_text}
use Rattle.imap_print.specs.Words.{in_parentheses}
use Rattle.imap_mime.specs.declared.address.Address.{Address}

abbrev pub is_ascii : ℕ → Bool
is_ascii b = nat_lt b 128

-- the octets of `quoted` in IMAP4rev1: ASCII without NUL, CR and LF
abbrev pub is_quoted : List ℕ → Bool
is_quoted octets = is_quotable octets && list_all is_ascii octets

-- a literal, unless there are more octets than it can announce, as in no memory
abbrev pub held_text : List ℕ → List ℕ
held_text octets =
    if nat_lt max_announced_octets (length octets) then codes "NIL" else literal_text octets

-- `string`: in quotes where it can be, else as a literal
abbrev pub string_text : List ℕ → List ℕ
string_text octets = if is_quoted octets then quoted_text octets else held_text octets

-- `nstring`
abbrev pub nstring_text : Option (List ℕ) → List ℕ
nstring_text None = codes "NIL"
nstring_text (Some octets) = string_text octets

-- the words of `address`
abbrev pub address_words : Address → List (List ℕ)
address_words a =
    nstring_text a.name ∷ nstring_text a.route ∷ nstring_text a.mailbox ∷ nstring_text a.host ∷ []

abbrev pub address_text : Address → List ℕ
address_text a = in_parentheses (address_words a)

-- one address or more in parentheses, with nothing between, or NIL
abbrev pub addresses_text : List Address → List ℕ
addresses_text [] = codes "NIL"
addresses_text (a ∷ more) = 40 ∷ flat_map address_text (a ∷ more) ++ 41 ∷ []
