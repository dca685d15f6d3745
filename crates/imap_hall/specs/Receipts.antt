-- What receipts say, and what a room has of the steps that were made in it.
use Rattle.std.specs.Prelude.{◌≡◌, Bool, true, List, [], ◌∷◌, ◌++◌}
use Rattle.imap_saving.specs.Step.{Step}
use Rattle.imap_hall.specs.declared.journal.Receipt.{Receipt}
use Rattle.imap_hall.specs.Hall.{entry_of}
use Rattle.imap_hall.specs.Journal.{JournalEntry}

-- These are the last of all the entries; or all of them, if none is let go.
pub record AreLast (keeps_all : Bool) (whole kept : List JournalEntry) : Type 0 where
  pub before : List JournalEntry
  pub parts : whole ≡ before ++ kept
  pub all : keeps_all ≡ true → before ≡ []

-- the entry of the receipt was added
abbrev pub IsAdded :
    (keeps_all : Bool) → (old : List JournalEntry) → Step → Receipt → (new : List JournalEntry) → Type 0
IsAdded keeps_all old step receipt new = AreLast keeps_all (old ++ entry_of step receipt ∷ []) new

-- the entry of the receipt is the last one
pub record IsNewest (step : Step) (receipt : Receipt) (entries : List JournalEntry) : Type 0 where
  pub before : List JournalEntry
  pub parts : entries ≡ before ++ entry_of step receipt ∷ []

-- both are receipts of one entry
pub record IsSameReceipt (r s : Receipt) : Type 0 where
  pub place : s.place ≡ r.place
  pub own : s.own ≡ r.own
  pub replies : s.replies ≡ r.replies
