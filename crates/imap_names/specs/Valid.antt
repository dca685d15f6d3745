-- Which names a mailbox may have, and how a path is held.
use Rattle.std.specs.Prelude.{◌≡◌, ℕ, ◌≤◌, Bool, true, false, not, ◌&&◌, ◌||◌, nat_lt, Option, Some, None}
use Rattle.std.specs.Prelude.{List, [], ◌∷◌, chars, codes, length, map, bytes_eq, if◌then◌else◌}
use Rattle.std.specs.Char.{to_ascii_lowercase}
use Rattle.std.specs.Str.{is_utf8}
use Rattle.std.specs.List.{list_any, join_with_byte}
use Rattle.unicode_normalization.specs.Forms.{is_nfc}
use Rattle.imap_names.specs.Name.{Name, root_of, components, path_of, is_empty}
use Rattle.imap_names.specs.Text.{components_of, has_control}
use Rattle.imap_names.specs.UserName.{is_user_name}

-- the most octets of a path
abbrev pub max_path_octets : ℕ
max_path_octets = 255

-- the most components of a path
abbrev pub max_depth : ℕ
max_depth = 16

-- the first component of a prefix of a namespace (RFC 9051, section 5.1.2)
abbrev pub is_prefix_word : List ℕ → Bool
is_prefix_word component = bytes_eq component (codes "Other Users") || bytes_eq component (codes "Shared")

-- in a user's tree no path may look as if it led into another namespace
abbrev pub is_reserved : List ℕ → List (List ℕ) → Bool
is_reserved root [] = false
is_reserved root (first ∷ more) = not (is_empty root) && is_prefix_word first

-- INBOX in any case (RFC 9051, section 5.1)
abbrev pub is_inbox_word : List ℕ → Bool
is_inbox_word component = bytes_eq (map to_ascii_lowercase component) (codes "inbox")

-- a first component that spells INBOX is held in upper case
abbrev pub with_inbox : List (List ℕ) → List (List ℕ)
with_inbox [] = []
with_inbox (first ∷ more) = (if is_inbox_word first then codes "INBOX" else first) ∷ more

abbrev pub held_path : List ℕ → List ℕ
held_path path = join_with_byte 47 (with_inbox (components_of path))

-- whether the path is neither too long nor too deep for a mailbox
abbrev pub fits : Name → Bool
fits name =
    not (nat_lt max_path_octets (length (path_of name))) && not (nat_lt max_depth (length (components name)))

abbrev pub if_fits : Name → Option Name
if_fits name = if fits name then Some name else None

-- the root of the Shared tree, or a user
abbrev pub is_root : List ℕ → Bool
is_root root = is_empty root || is_user_name root

pub record IsName (name : Name) : Type 0 where
  pub tree : is_root (root_of name) ≡ true
  -- so there is a component, and none has a delimiter in it
  pub parted : components_of (path_of name) ≡ components name
  pub filled : list_any is_empty (components name) ≡ false
  pub shallow : length (components name) ≤ max_depth
  pub short : length (path_of name) ≤ max_path_octets
  pub utf8 : is_utf8 (path_of name) ≡ true
  pub nfc : is_nfc (chars (path_of name)) ≡ true
  pub printable : has_control (path_of name) ≡ false
  pub unreserved : is_reserved (root_of name) (components name) ≡ false
  pub inbox : with_inbox (components name) ≡ components name
