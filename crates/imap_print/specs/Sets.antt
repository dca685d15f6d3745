-- Sets of message numbers, and how they are printed (RFC 9051, section 9, `sequence-set`).
use Rattle.std.specs.Prelude.{◌≡◌, ℕ, ◌+◌, ◌^◌, ◌<◌, ◌==◌, ◌&&◌, not, nat_lt, Bool}
use Rattle.std.specs.Prelude.{true, List, [], ◌∷◌, ◌++◌, length}
use Rattle.std.specs.Prelude.{codes, decimal, map, if◌then◌else◌, Option, Some, None}
use Rattle.std.specs.List.{AllByRecursion}
use Rattle.imap_print.specs.Words.{joined}

-- the first number is above this one, and each other above the one before
abbrev pub rise_above : ℕ → List ℕ → Bool
rise_above low [] = true
rise_above low (n ∷ numbers) = nat_lt low n && rise_above n numbers

-- one number or more, from 1, each above the one before
abbrev pub is_rising : List ℕ → Bool
is_rising numbers = not (length numbers == 0) && rise_above 0 numbers

-- a message number or UID has 32 bits
abbrev pub Fits : ℕ → Type 0
Fits n = n < 2 ^ 32

pub record IsNumberSet (numbers : List ℕ) : Type 0 where
  pub rising : is_rising numbers ≡ true
  pub fit : AllByRecursion Fits numbers

abbrev pub set_of : List ℕ → Option (List ℕ)
set_of numbers = if is_rising numbers then Some numbers else None

-- the numbers from the first to the last
pub record Range : Type 0 where
  pub first : ℕ
  pub last : ℕ

-- the ranges of a run from `first` to `last` and of further numbers. The run goes on with a number that is
-- one more than its last
abbrev pub runs_from : (first last : ℕ) → List ℕ → List Range
runs_from first last [] = record { first = first; last = last } ∷ []
runs_from first last (n ∷ numbers) =
    if n == last + 1
    then runs_from first n numbers
    else record { first = first; last = last } ∷ runs_from n n numbers

abbrev pub runs : List ℕ → List Range
runs [] = []
runs (n ∷ numbers) = runs_from n n numbers

abbrev pub range_text : Range → List ℕ
range_text range =
    if range.first == range.last then decimal range.first
    else decimal range.first ++ codes ":" ++ decimal range.last

abbrev pub set_text : List ℕ → List ℕ
set_text numbers = joined 44 (map range_text (runs numbers))
