-- Which texts are user names.
use Rattle.std.specs.Prelude.{◌≡◌, ℕ, ◌==◌, Bool, true, false, Option, MatchOption, not, ◌&&◌, ◌||◌, nat_eq}
use Rattle.std.specs.Prelude.{nat_lt, nat_le, List, chars, codes, length, bytes_eq}
use Rattle.std.specs.Char.{is_control}
use Rattle.std.specs.Str.{is_utf8}
use Rattle.std.specs.List.{list_any, starts_with}
use Rattle.unicode_normalization.specs.Forms.{is_nfc}

-- a space, the delimiter of names, or a control
abbrev pub is_barred : ℕ → Bool
is_barred char = char == 32 || char == 47 || is_control char

-- an identifier of an ACL that is no user (RFC 4314, section 2), or that takes rights away (section 3.1)
abbrev pub names_no_user : List ℕ → Bool
names_no_user text =
    bytes_eq text (codes "anyone") || starts_with nat_eq text (codes "-")
    || starts_with nat_eq text (codes "group:")

-- the most octets of a user name
abbrev pub max_user_name_octets : ℕ
max_user_name_octets = 64

-- not empty, not too long, no character that is barred, and nothing that means something else in an ACL
abbrev pub has_user_form : List ℕ → Bool
has_user_form text =
    nat_lt 0 (length text) && nat_le (length text) max_user_name_octets
    && not (list_any is_barred (chars text)) && not (names_no_user text)

-- text in NFC (RFC 5198) of that form
unfoldable pub is_user_name : List ℕ → Bool
is_user_name text = is_utf8 text && is_nfc (chars text) && has_user_form text

-- the user name that a text is, and none exactly if it is no user name
abbrev pub IsUserNameRead : List ℕ → Option (List ℕ) → Type 0
IsUserNameRead text read =
    MatchOption read (is_user_name text ≡ false) (λ name. (name ≡ text) × (is_user_name name ≡ true))
