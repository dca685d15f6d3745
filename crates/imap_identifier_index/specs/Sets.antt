-- The numbers of the mailboxes whose lists have an entry of an identifier.
use Rattle.std.specs.Prelude.{◌≡◌, ℕ, ◌==◌, Bool, false, ◌&&◌, ◌||◌, not, List, Option, Some, None, bytes_eq, length}
use Rattle.std.specs.FinMap as map
use Rattle.std.specs.List.{list_any}
use Rattle.imap_rights.specs.declared.acl.Entry.{Entry}
use Rattle.imap_user_map.specs.Rows.{Users}

abbrev pub has_number : ℕ → List ℕ → Bool
has_number number numbers = list_any (λ other. number == other) numbers

abbrev pub is_numbered : ℕ → Option (List ℕ) → Bool
is_numbered number None = false
is_numbered number (Some numbers) = has_number number numbers

-- the number is in the identifier's set
abbrev pub is_in : Users (List ℕ) → (identifier : List ℕ) → ℕ → Bool
is_in sets identifier number = is_numbered number (map.get sets identifier)

-- how many numbers a set has
abbrev pub set_length : Option (List ℕ) → ℕ
set_length None = 0
set_length (Some numbers) = length numbers

abbrev pub AreSame : (old new : Users (List ℕ)) → Type 0
AreSame old new =
    (identifier : List ℕ) (number : ℕ) → is_in new identifier number ≡ is_in old identifier number

-- an entry is of the identifier
abbrev pub is_listed : (identifier : List ℕ) → List Entry → Bool
is_listed identifier entries = list_any (λ e. bytes_eq identifier e.identifier) entries

-- the number is in the sets of all identifiers that pass the test, and nothing else changed
abbrev pub IsAdded : (test : List ℕ → Bool) → ℕ → (old new : Users (List ℕ)) → Type 0
IsAdded test number old new =
    (identifier : List ℕ) (other : ℕ)
    → is_in new identifier other ≡ ((test identifier && other == number) || is_in old identifier other)

-- the number is in the set of no identifier that passes the test, and nothing else changed
abbrev pub IsTaken : (test : List ℕ → Bool) → ℕ → (old new : Users (List ℕ)) → Type 0
IsTaken test number old new =
    (identifier : List ℕ) (other : ℕ)
    → is_in new identifier other ≡ (not (test identifier && other == number) && is_in old identifier other)
