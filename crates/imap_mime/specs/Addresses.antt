-- Lists of addresses, octet by octet (RFC 5322, section 3.4).
use Rattle.std.specs.Prelude.{ℕ, Bool, true, false, ◌==◌, ◌&&◌, not, List, [], ◌∷◌, ◌++◌}
use Rattle.std.specs.Prelude.{Option, Some, None, if◌then◌else◌}
use Rattle.imap_mime.specs.declared.address.Address.{Address}
use Rattle.imap_mime.specs.declared.addresses.AddressReader.{AddressReader}
use Rattle.imap_mime.specs.declared.lexical.Lexical.TheVariants as lexical
use Rattle.imap_mime.specs.declared.lexical.Sign.{Sign}
use Rattle.imap_mime.specs.declared.lexical.Sign.TheVariants as sign
use Rattle.imap_mime.specs.Lexical.{sign_read}
use Rattle.imap_mime.specs.Parts.{address_of, is_within, no_parts, parts_after}

abbrev pub address_list : Option Address → List Address
address_list None = []
address_list (Some a) = a ∷ []

-- ---- groups (RFC 9051, section 7.5.2)

-- A group begins with an address that has its name as the mailbox, and nothing else.
abbrev pub group_start : (name : List ℕ) → Address
group_start name = record { name = None; route = None; mailbox = Some name; host = None }

-- It ends with one that has nothing.
abbrev pub group_end : Address
group_end = record { name = None; route = None; mailbox = None; host = None }

abbrev pub group_ends : (in_group : Bool) → List Address
group_ends true = group_end ∷ []
group_ends false = []

-- ---- places in a list

abbrev pub start : AddressReader
start = record { lexical = lexical.Outside; parts = no_parts; in_group = false }

abbrev pub without_parts : AddressReader → AddressReader
without_parts r = record r { parts = no_parts }

abbrev pub without_group : AddressReader → AddressReader
without_group r = record r { in_group = false }

abbrev pub within_group : AddressReader → AddressReader
within_group r = record r { parts = no_parts; in_group = true }

-- ---- the place after each sign, and the addresses that it ends or begins

-- the address that has begun
abbrev pub end_addresses : AddressReader → List Address
end_addresses r = address_list (address_of r.parts)

-- this address, and the end of the group
abbrev pub last_addresses : AddressReader → List Address
last_addresses r = end_addresses r ++ group_ends r.in_group

abbrev pub begins_group : ℕ → AddressReader → Bool
begins_group b r = b == 58 && not r.in_group

-- outside angle brackets
abbrev pub after_divider : ℕ → AddressReader → AddressReader
after_divider b r =
    if b == 44 then without_parts r
    else (if b == 59 then without_group (without_parts r)
    else (if begins_group b r then within_group r
    else record r { parts = parts_after (sign.Divider b) r.parts }))

abbrev pub divider_addresses : ℕ → AddressReader → List Address
divider_addresses b r =
    if b == 44 then end_addresses r
    else (if b == 59 then last_addresses r
    else (if begins_group b r then group_start r.parts.phrase.text ∷ [] else []))

abbrev pub after_sign : Sign → AddressReader → AddressReader
after_sign (sign.Divider b) r =
    if is_within r.parts then record r { parts = parts_after (sign.Divider b) r.parts } else after_divider b r
after_sign other r = record r { parts = parts_after other r.parts }

abbrev pub sign_addresses : Sign → AddressReader → List Address
sign_addresses (sign.Divider b) r = if is_within r.parts then [] else divider_addresses b r
sign_addresses other r = []

abbrev pub after_octet : ℕ → AddressReader → AddressReader
after_octet b r = after_sign (sign_read r.lexical b).sign (record r { lexical = (sign_read r.lexical b).next })

abbrev pub octet_addresses : ℕ → AddressReader → List Address
octet_addresses b r =
    sign_addresses (sign_read r.lexical b).sign (record r { lexical = (sign_read r.lexical b).next })

-- the addresses that these octets end, and those that end with them
abbrev pub addresses_from : AddressReader → List ℕ → List Address
addresses_from r [] = last_addresses r
addresses_from r (b ∷ bs) = octet_addresses b r ++ addresses_from (after_octet b r) bs

-- the addresses in the value of a field
abbrev pub addresses_in : (value : List ℕ) → List Address
addresses_in value = addresses_from start value
