-- What finds mailboxes by the identifiers in their access control lists (RFC 4314, section 2).
use Rattle.std.specs.Prelude.{◌≡◌, ◌↔◌, ◌<◌, ◌||◌, ℕ, Bool, true, false, List, ◌++◌, Option, Some, None, is_some, refl}
use Rattle.std.specs.Prelude.{bytes_eq, length, if◌then◌else◌}
use Rattle.std.specs.Coded.{Coded, code_by, coded×, coded_ℕ, coded_bool, coded_list, coded_option}
use Rattle.std.specs.FinMap as map
use Rattle.std.specs.List.{Contains}
use Rattle.std.specs.Ordering.{eq_by_cmp}
use Rattle.imap_names.specs.Name.{Name, root_of}
use Rattle.imap_names.specs.Order.{is_within, moved, name_cmp}
use Rattle.imap_rights.specs.Acl.{AclMap}
use Rattle.imap_user_map.specs.Rows.{Users, users_code}
use Rattle.imap_identifier_index.specs.Names.{name_at}
use Rattle.imap_identifier_index.specs.Sets.{is_in}

-- each mailbox has a number; an index that is not whole tells nothing
pub record Index : Type 0 where
  pub names : List (Option Name)
  pub sets : Users (List ℕ)
  pub is_whole : Bool

abbrev pub index_code : Coded Index
index_code =
    code_by (List (Option Name) × (Users (List ℕ) × Bool))
    (coded× (coded_list (coded_option (coded_list (coded_list coded_ℕ))))
    (coded× (users_code (coded_list coded_ℕ)) coded_bool))
    (λ i. (i.names, (i.sets, i.is_whole)))
    (λ p. record { names = p.0; sets = p.1.0; is_whole = p.1.1 }) (λ _. refl)

-- ---- what it is the index of

-- the access control lists of mailboxes, by their names
abbrev pub Lists : Type 0
Lists = Name → Option AclMap

-- with this list at the name, or none
abbrev pub with_list : Lists → Name → Option AclMap → Lists
with_list lists name list other = if eq_by_cmp name_cmp other name then list else lists other

-- with `old` and all names below it moved to `new`
abbrev pub moved_lists : (old new : Name) → Lists → Lists
moved_lists old new lists name =
    if is_within new name then lists (moved new old name)
    else if is_within old name then None else lists name

-- A mailbox is found by each identifier of its list, and by the root of its tree: its owner holds rights
-- without an entry. The root of the tree that all share is no text, which is no identifier.
abbrev pub finds : (text : List ℕ) → Name → AclMap → Bool
finds text name acl = map.contains_key acl text || bytes_eq text (root_of name)

abbrev pub finds_at : (text : List ℕ) → Name → Option AclMap → Bool
finds_at text name None = false
finds_at text name (Some acl) = finds text name acl

abbrev pub finds_named : (text : List ℕ) → Lists → Option Name → Bool
finds_named text lists None = false
finds_named text lists (Some name) = finds_at text name (lists name)

-- each mailbox has one number, and each number that has a name is that of a mailbox
pub record AreNumbered (names : ℕ → Option Name) (lists : Lists) : Type 0 where
  pub numbered : (name : Name) → is_some (lists name) ≡ true → (number : ℕ) × (names number ≡ Some name)
  pub there : (number : ℕ) (name : Name) → names number ≡ Some name → is_some (lists name) ≡ true
  pub alone : (a b : ℕ) (name : Name) → names a ≡ Some name → names b ≡ Some name → a ≡ b

-- the numbers in a set are those of the mailboxes that a walk of all finds
pub record AreFound (names : ℕ → Option Name) (set : List ℕ → ℕ → Bool) (lists : Lists) : Type 0 where
  pub numbers : AreNumbered names lists
  pub entered : (text : List ℕ) (number : ℕ) → set text number ≡ finds_named text lists (names number)

abbrev pub IsIndexOf : Index → Lists → Type 0
IsIndexOf index lists =
    index.is_whole ≡ true → AreFound (name_at index.names) (is_in index.sets) lists

-- the second is an index of all that the first is one of
abbrev pub IsKept : (old new : Index) → Type 0
IsKept old new = (lists : Lists) → IsIndexOf old lists → IsIndexOf new lists

-- The run is all mailboxes that are `old` or below it. None is `new` or below that, in the same tree.
pub record IsRun (lists : Lists) (old new : Name) (run : List Name) : Type 0 where
  pub whole : (name : Name) → is_within old name ≡ true → is_some (lists name) ≡ true → Contains run name
  pub within : (name : Name) → Contains run name → is_within old name ≡ true
  pub listed : (name : Name) → Contains run name → is_some (lists name) ≡ true
  pub free : (name : Name) → is_within new name ≡ true → lists name ≡ None
  pub tree : root_of new ≡ root_of old
  pub rooted : (0 < length old) × (0 < length new)

-- ---- what it tells

-- the names were appended of all mailboxes that the text finds
pub record PushesNames (lists : Lists) (text : List ℕ) (old new : List Name) : Type 0 where
  pub more : List Name
  pub appended : new ≡ old ++ more
  pub names : (name : Name) → Contains more name ↔ (finds_at text name (lists name) ≡ true)
