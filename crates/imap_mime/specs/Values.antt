-- The values of header fields (RFC 5322, sections 2.2 and 2.2.3).
use Rattle.std.specs.Prelude.{ℕ, ◌-◌, Bool, not, List, [], ◌∷◌, length, take, drop, filter, flat_map}
use Rattle.std.specs.Prelude.{Option, Some, None}
use Rattle.std.specs.Char.{is_ascii_whitespace}
use Rattle.std.specs.List.{prefix_len, suffix_len}
use Rattle.imap_syntax.specs.Written.{is_unquotable}
use Rattle.imap_text.specs.Fields.{field_texts}
use Rattle.imap_mime.specs.declared.address.Address.{Address}
use Rattle.imap_mime.specs.Addresses.{addresses_in}

-- none of NUL, CR and LF
abbrev pub is_kept : ℕ → Bool
is_kept b = not (is_unquotable b)

abbrev pub without_front : List ℕ → List ℕ
without_front text = drop (prefix_len is_ascii_whitespace text) text

abbrev pub without_back : List ℕ → List ℕ
without_back text = take (length text - suffix_len is_ascii_whitespace text) text

-- without white space at both ends
abbrev pub trimmed : List ℕ → List ℕ
trimmed text = without_back (without_front text)

-- the value of a field with this text: trimmed, unfolded, and without octets that no text may have
abbrev pub value_of : (text : List ℕ) → List ℕ
value_of text = filter is_kept (trimmed text)

abbrev pub value_of_first : (texts : List (List ℕ)) → Option (List ℕ)
value_of_first [] = None
value_of_first (text ∷ texts) = Some (value_of text)

-- the value of the first field of a name
abbrev pub first_value : (name header : List ℕ) → Option (List ℕ)
first_value name header = value_of_first (field_texts name header)

abbrev pub addresses_of : Option (List ℕ) → List Address
addresses_of None = []
addresses_of (Some value) = addresses_in value

abbrev pub first_addresses : (name header : List ℕ) → List Address
first_addresses name header = addresses_of (first_value name header)

abbrev pub values_addresses : (texts : List (List ℕ)) → List Address
values_addresses texts = flat_map (λ text. addresses_in (value_of text)) texts

-- the addresses in all fields of a name
abbrev pub all_addresses : (name header : List ℕ) → List Address
all_addresses name header = values_addresses (field_texts name header)
