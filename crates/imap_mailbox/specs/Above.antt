-- Rows above a mod-sequence.
use Rattle.std.specs.Prelude.{◌≡◌, ℕ, ◌<◌, ◌≤◌, List, slice_index_or}
use Rattle.imap_mailbox.specs.Rows.{Row}

-- the mod-sequences of the rows from `start` on and before `end` are at most the number
abbrev pub AreAtMostFrom : (number start end : ℕ) → List Row → Type 0
AreAtMostFrom number start end rows = (i : ℕ) (r : Row) → start ≤ i → i < end
    → r ≡ slice_index_or rows i r → r.number ≤ number

-- the place of the first row from `start` on and before `end` whose mod-sequence is above the number, or `end`
pub record IsFirstAbove (number start end place : ℕ) (rows : List Row) : Type 0 where
  pub after : start ≤ place
  pub within : place ≤ end
  pub low : AreAtMostFrom number start place rows
  pub above : place < end → (r : Row) → r ≡ slice_index_or rows place r → number < r.number
