-- What a text names (RFC 9051, sections 5.1 and 5.1.2; RFC 5198).
use Rattle.std.specs.Prelude.{ℕ, Bool, false, not, ◌||◌, nat_eq, nat_lt, List, [], codes, length, drop}
use Rattle.std.specs.Prelude.{bytes_eq, if◌then◌else◌, Option, Some, None, Result, Ok, Err}
use Rattle.std.specs.Str.{is_utf8}
use Rattle.std.specs.List.{list_any, starts_with, before_first, after_first}
use Rattle.imap_names.specs.declared.error.NameError.{NameError}
use Rattle.imap_names.specs.declared.error.NameError.TheVariants.{EmptyComponent, TooLong, TooDeep, Reserved}
use Rattle.imap_names.specs.declared.error.NameError.TheVariants.{Control}
use Rattle.imap_names.specs.declared.read.Namespace.{Namespace}
use Rattle.imap_names.specs.declared.read.Namespace.TheVariants.{Personal, OtherUsers, Shared, Bare}
use Rattle.imap_names.specs.Name.{Name, name_of, shared_root, is_empty}
use Rattle.imap_nfc.specs.Nfc.{composed}
use Rattle.imap_names.specs.Text.{is_delimiter, components_of, has_control}
use Rattle.imap_names.specs.UserName.{is_user_name}
use Rattle.imap_names.specs.Valid.{max_path_octets, max_depth, is_prefix_word, is_reserved, with_inbox}

-- the namespace of a text, the owner that it names there and the rest as the path, both as they were written
pub record NameParts : Type 0 where
  pub namespace : Namespace
  pub owner : List ℕ
  pub path : List ℕ

-- after the prefix of the other users stand a user and a path; a user alone names no mailbox
abbrev pub other_parts : List ℕ → NameParts
other_parts rest =
    if list_any is_delimiter rest
    then record {
      namespace = OtherUsers;
      owner = before_first is_delimiter rest;
      path = after_first is_delimiter rest;
    }
    else record { namespace = Bare; owner = rest; path = [] }

abbrev pub parts_of : List ℕ → NameParts
parts_of text =
    if is_prefix_word text then record { namespace = Bare; owner = []; path = [] }
    else if starts_with nat_eq text (codes "Shared/")
    then record { namespace = Shared; owner = []; path = drop 7 text }
    else if starts_with nat_eq text (codes "Other Users/") then other_parts (drop 12 text)
    else record { namespace = Personal; owner = []; path = text }

-- whether the owner is the reader, who may not name his own tree by the prefix of the other users
abbrev pub is_own : Option (List ℕ) → List ℕ → Bool
is_own None owner = false
is_own (Some user) owner = bytes_eq owner user

-- the tree of a personal name is the reader's; some readers have none
abbrev pub own_root : Option (List ℕ) → Result (List ℕ) NameError
own_root None = Err Reserved
own_root (Some user) = Ok user

-- another user's tree
abbrev pub other_root : Option (List ℕ) → List ℕ → Result (List ℕ) NameError
other_root own owner = if is_own own owner || not (is_user_name owner) then Err Reserved else Ok owner

-- the root of the tree that a namespace has for a reader, by the owner that is named there
abbrev pub root_at : Option (List ℕ) → Namespace → List ℕ → Result (List ℕ) NameError
root_at own Personal owner = own_root own
root_at own OtherUsers owner = other_root own owner
root_at own Shared owner = Ok shared_root
root_at own Bare owner = Err Reserved

-- the first rule that a path breaks in the tree
abbrev pub path_fault : List ℕ → List ℕ → Option NameError
path_fault root path =
    if is_reserved root (components_of path) then Some Reserved
    else if list_any is_empty (components_of path) then Some EmptyComponent
    else if nat_lt max_path_octets (length path) then Some TooLong
    else if nat_lt max_depth (length (components_of path)) then Some TooDeep
    else None

abbrev pub unless_fault : Option NameError → Name → Result Name NameError
unless_fault (Some error) name = Err error
unless_fault None name = Ok name

-- the name with this path in the tree
abbrev pub name_in : List ℕ → List ℕ → Result Name NameError
name_in root path = unless_fault (path_fault root path) (name_of root (with_inbox (components_of path)))

abbrev pub in_tree : Result (List ℕ) NameError → List ℕ → Result Name NameError
in_tree (Err error) path = Err error
in_tree (Ok root) path = name_in root path

-- owner and path in NFC
abbrev pub name_at : Option (List ℕ) → Namespace → List ℕ → List ℕ → Result Name NameError
name_at own namespace owner path =
    if has_control owner || has_control path then Err Control
    else in_tree (root_at own namespace owner) path

-- what a text names for a reader with this tree, if he has one
unfoldable pub read_by : Option (List ℕ) → List ℕ → Result Name NameError
read_by own text =
    let parts : NameParts = parts_of text in
    if is_utf8 text then name_at own parts.namespace (composed parts.owner) (composed parts.path)
    else Err Control

-- what a text names for a user
abbrev pub name_read : List ℕ → List ℕ → Result Name NameError
name_read user text = read_by (Some user) text

-- what a text names that says its tree in full
abbrev pub full_name_read : List ℕ → Result Name NameError
full_name_read text = read_by None text
