-- Rows that are left to a cursor.
use Rattle.std.specs.Prelude.{◌≡◌, ℕ, ◌<◌, ◌≤◌, Bool, false, ◌==◌, ◌&&◌, not, nat_lt, List, [], ◌∷◌}
use Rattle.std.specs.Prelude.{length, take, slice_index_or}
use Rattle.imap_mailbox.specs.Rows.{Row}
use Rattle.imap_mailbox.specs.Lent.{row_uids}
use Rattle.imap_mailbox.specs.Order.{AreAtMost}

-- the first row has the UID
abbrev pub is_next : (uid : ℕ) → List Row → Bool
is_next uid [] = false
is_next uid (r ∷ rows) = uid == r.uid

-- the first row has the UID, and its number isn't above this one
abbrev pub is_unchanged : (uid number : ℕ) → List Row → Bool
is_unchanged uid number [] = false
is_unchanged uid number (r ∷ rows) = uid == r.uid && not (nat_lt number r.number)

-- the first n known UIDs are those of the first n rows, whose numbers aren't above this one
pub record IsKnownRun (number n : ℕ) (uids : List ℕ) (rows : List Row) : Type 0 where
  pub few : n ≤ length uids
  pub same : take n uids ≡ row_uids (take n rows)
  pub low : AreAtMost number (take n rows)

-- the first n known UIDs are those of the first n rows
pub record AreFirst (n : ℕ) (uids : List ℕ) (rows : List Row) : Type 0 where
  pub few : n ≤ length uids
  pub there : n ≤ length rows
  pub same : (i u : ℕ) (r : Row) → i < n → slice_index_or uids i u ≡ (slice_index_or rows i r).uid

-- the mod-sequences of the first n rows aren't above the number
abbrev pub AreLow : (number n : ℕ) → List Row → Type 0
AreLow number n rows = (i : ℕ) (r : Row) → i < n → r ≡ slice_index_or rows i r → r.number ≤ number
