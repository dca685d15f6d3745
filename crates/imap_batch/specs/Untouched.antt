-- Rows that a batch leaves as they are, one after another.
use Rattle.std.specs.Prelude.{◌≡◌, ℕ, ◌-◌, ◌<◌, ◌≤◌, false, List, [], ◌∷◌, length, take, drop, slice_index_or}
use Rattle.std.specs.Prelude.{Option, Some, None}
use Rattle.imap_mailbox.specs.Rows.{Row, is_among}
use Rattle.imap_mailbox.specs.Order.{AreAtMost}
use Rattle.imap_batch.specs.declared.batch.FlagUpdate.{FlagUpdate}
use Rattle.imap_batch.specs.Planned.{first_uid}

-- the first `len` rows, of which there is one at least, have mod-sequences of `number` or less, and the last of
-- them has the UID
pub record IsRunTo (number uid len : ℕ) (rows : List Row) : Type 0 where
  pub some : 0 < len
  pub few : len ≤ length rows
  pub numbers : AreAtMost number (take len rows)
  pub last : first_uid (drop (len - 1) rows) ≡ Some uid

-- the first of the marks, if there is one, is of a greater UID
abbrev pub IsBeforeMarks : (uid : ℕ) → List FlagUpdate → Type 0
IsBeforeMarks uid [] = Unit {0}
IsBeforeMarks uid (k ∷ marks) = uid < k.uid

-- the UID is less than this one, if there is one
abbrev pub IsBefore : (uid : ℕ) → Option ℕ → Type 0
IsBefore uid None = Unit {0}
IsBefore uid (Some first) = uid < first

-- the rows from `place` on and before `end` come before all marks, and none is expunged
pub record AreLeft (marks : List FlagUpdate) (uids : List ℕ) (place end : ℕ) (rows : List Row) : Type 0 where
  pub unmarked : (i : ℕ) (r : Row) → place ≤ i → i < end → r ≡ slice_index_or rows i r
      → IsBeforeMarks r.uid marks
  pub staying : (i : ℕ) (r : Row) → place ≤ i → i < end → r ≡ slice_index_or rows i r
      → is_among r.uid uids ≡ false
