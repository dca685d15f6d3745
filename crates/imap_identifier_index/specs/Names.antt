-- The names of mailboxes by their numbers.
use Rattle.std.specs.Prelude.{◌≡◌, ℕ, ◌==◌, List, get_or, true, false, Option, Some, None, if◌then◌else◌}
use Rattle.std.specs.List.{Contains}
use Rattle.imap_names.specs.Name.{Name}
use Rattle.imap_names.specs.Order.{is_within, moved}

-- the name of the mailbox with this number
abbrev pub name_at : List (Option Name) → ℕ → Option Name
name_at names number = get_or names number None

-- at this number one thing stood before, and another stands now
pub record IsPut (number : ℕ) (before after : Option Name) (old new : List (Option Name)) : Type 0 where
  pub was : name_at old number ≡ before
  pub is : (other : ℕ) → name_at new other ≡ (if other == number then after else name_at old other)

-- what a name becomes once `old` and all names below it are moved to `new`
abbrev pub renamed : (old new : Name) → Name → Name
renamed old new name = if is_within old name then moved old new name else name

abbrev pub renamed_at : (old new : Name) → Option Name → Option Name
renamed_at old new None = None
renamed_at old new (Some name) = Some (renamed old new name)

-- A run is all names that are `old` or below it. None of them is `new` or below that, and no name has two
-- numbers.
pub record MayMove (names : List (Option Name)) (old new : Name) (run : List Name) : Type 0 where
  pub alone : (a b : ℕ) (name : Name)
      → name_at names a ≡ Some name → name_at names b ≡ Some name → a ≡ b
  pub whole : (number : ℕ) (name : Name)
      → name_at names number ≡ Some name → is_within old name ≡ true → Contains run name
  pub within : (name : Name) → Contains run name → is_within old name ≡ true
  pub apart : (name : Name) → Contains run name → is_within new name ≡ false
