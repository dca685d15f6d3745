-- What a seat keeps of what it was given.
use Rattle.std.specs.Prelude.{◌≡◌, ◌⊎◌, ℕ, Bool, false, List, [], ◌∷◌, ◌++◌, nat_le, if◌then◌else◌}
use Rattle.imap_hall.specs.Step.{Step}
use Rattle.imap_hall.specs.declared.journal.Receipt.{Receipt}
use Rattle.imap_hall.specs.Hall.{entry_of}
use Rattle.imap_hall.specs.Journal.{JournalEntry}
use Rattle.imap_hall.specs.Receipts.{IsSameReceipt}
use Rattle.imap_hall.specs.Made.{Made}

-- the entry of a receipt that is kept
abbrev pub kept_entry : Made → JournalEntry
kept_entry k = entry_of k.step k.receipt

-- what is kept is the receipt of the step
pub record IsReceipt (k : Made) (made : Step) (r : Receipt) : Type 0 where
  pub step : k.step ≡ made
  pub receipt : IsSameReceipt r k.receipt

-- the first receipt is of an entry before the base
abbrev pub begins_before : (base : ℕ) → List Made → Bool
begins_before base [] = false
begins_before base (k ∷ ks) = nat_le k.receipt.place base

-- without those at the front whose entries stand before the base
abbrev pub from_base : (base : ℕ) → List Made → List Made
from_base base [] = []
from_base base (k ∷ ks) = if nat_le k.receipt.place base then from_base base ks else k ∷ ks

-- there is one more receipt after the first, which is of an entry before the base
abbrev pub has_more_before : (base : ℕ) → List Made → Bool
has_more_before base [] = false
has_more_before base (k ∷ []) = false
has_more_before base (k ∷ l ∷ ks) = nat_le k.receipt.place base

-- without those at the front whose entries stand before the base, but with the newest
abbrev pub but_newest : (base : ℕ) → List Made → List Made
but_newest base [] = []
but_newest base (k ∷ []) = k ∷ []
but_newest base (k ∷ l ∷ ks) = if nat_le k.receipt.place base then but_newest base (l ∷ ks) else k ∷ l ∷ ks

-- the receipts were let go of that a seat needs no more when it is told the base, if it is told one
abbrev pub LetsGo : (old new : List Made) → Type 0
LetsGo old new = (new ≡ old) ⊎ ((base : ℕ) × (new ≡ but_newest base old))

-- the receipt was added, and old ones were let go
pub record Remembers (base : ℕ) (old : List Made) (step : Step) (r : Receipt) (new : List Made) : Type 0 where
  pub kept : Made
  pub is : IsReceipt kept step r
  pub receipts : new ≡ from_base base old ++ kept ∷ []
