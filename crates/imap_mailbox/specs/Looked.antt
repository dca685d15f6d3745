-- Rows above a mod-sequence, found by the UIDs of last events.
use Rattle.std.specs.Prelude.{◌≡◌, ℕ, ◌<◌, ◌≤◌, Bool, true, List, length, slice_index_or}
use Rattle.imap_mailbox.specs.Rows.{Row}

-- the rows above the number have UIDs that pass the test
abbrev pub AreAmong : (test : ℕ → Bool) → (number : ℕ) → List Row → Type 0
AreAmong test number rows = (i : ℕ) (r : Row) → i < length rows → r ≡ slice_index_or rows i r
    → number < r.number → test r.uid ≡ true

-- the place of the first row above the number, of the rows from `start` on and before `end` whose UIDs pass
-- the test, or `end`
pub record IsFirstOf (test : ℕ → Bool) (number start end place : ℕ) (rows : List Row) : Type 0 where
  pub after : start ≤ place
  pub within : place ≤ end
  pub low : (i : ℕ) (r : Row) → start ≤ i → i < place → r ≡ slice_index_or rows i r
      → test r.uid ≡ true → r.number ≤ number
  pub above : place < end → (r : Row) → r ≡ slice_index_or rows place r → number < r.number
