-- The order of a mailbox as a user has it.
use Rattle.std.specs.Prelude.{ℕ, ◌+◌, ◌≤◌, List, [], ◌∷◌, map}
use Rattle.imap_modseq.specs.Numbers.{first_number}
use Rattle.imap_mailbox.specs.Flags.{HasFewKeywords}
use Rattle.imap_mailbox.specs.Rows.{Row, first_uid}
use Rattle.imap_mailbox.specs.Summary.{Rises, count_of, given_once}
use Rattle.imap_mailbox.specs.Lent.{row_uids}

-- each mod-sequence is `highest` or less
abbrev pub AreAtMost : (highest : ℕ) → List Row → Type 0
AreAtMost highest [] = Unit {0}
AreAtMost highest (r ∷ rows) = (r.number ≤ highest) × AreAtMost highest rows

abbrev pub AreOfFewKeywords : List Row → Type 0
AreOfFewKeywords [] = Unit {0}
AreOfFewKeywords (r ∷ rows) = HasFewKeywords r.flags × AreOfFewKeywords rows

-- the rows of a mailbox with these UIDNEXT and HIGHESTMODSEQ: their UIDs were given, and rise
pub record AreRowsInOrder (next highest : ℕ) (rows : List Row) : Type 0 where
  pub uids : Rises first_uid next (row_uids rows)
  pub numbers : AreAtMost highest rows
  pub keywords : AreOfFewKeywords rows

abbrev pub uids_gone : List (ℕ × ℕ) → List ℕ
uids_gone gone = map (λ g. g.0) gone

abbrev pub numbers_gone : List (ℕ × ℕ) → List ℕ
numbers_gone gone = map (λ g. g.1) gone

-- the gone UIDs of a mailbox with these UIDNEXT and HIGHESTMODSEQ: each was given, none stands twice, and
-- their numbers rise
pub record AreGoneInOrder (next highest : ℕ) (gone : List (ℕ × ℕ)) : Type 0 where
  pub uids : (uid : ℕ) → count_of uid (uids_gone gone) ≤ given_once next uid
  pub numbers : Rises first_number (highest + 1) (numbers_gone gone)
