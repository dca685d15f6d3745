-- When a journal and what the seats keep say the same.
use Rattle.std.specs.Prelude.{◌≡◌, ℕ, ◌-◌, ◌<◌, List, [], ◌∷◌, Some, ⊤, length, max, nat_le, if◌then◌else◌, slice_get, sum_by}
use Rattle.imap_hall.specs.SessionId.{SessionId}
use Rattle.imap_hall.specs.Journal.{JournalEntry}
use Rattle.imap_hall.specs.Made.{Made}
use Rattle.imap_receipts.specs.Keeping.{kept_entry}

-- what a seat keeps: its session, the place of the base as a turn-over told it, and the receipts
pub record SeatNotes : Type 0 where
  pub who : SessionId
  pub base : ℕ
  pub receipts : List Made

-- the receipts of entries since the base, before which `before` entries were made
abbrev pub since : (before : ℕ) → List Made → List Made
since before [] = []
since before (k ∷ ks) = if nat_le k.receipt.place before then since before ks else k ∷ since before ks

-- the receipts stand at rising places, all after this one
abbrev pub Rise : (place : ℕ) → List Made → Type 0
Rise place [] = ⊤
Rise place (k ∷ ks) = (place < k.receipt.place) × Rise k.receipt.place ks

-- the receipt is of the session, and of the entry at its place
pub record IsOfEntry (before : ℕ) (journal : List JournalEntry) (session : SessionId) (k : Made)
    : Type 0 where
  pub who : k.step.who ≡ session
  pub entry : slice_get journal (k.receipt.place - before - 1) ≡ Some (kept_entry k)

abbrev pub AreOfEntries : (before : ℕ) → List JournalEntry → SessionId → List Made → Type 0
AreOfEntries before journal session [] = ⊤
AreOfEntries before journal session (k ∷ ks) =
    IsOfEntry before journal session k × AreOfEntries before journal session ks

-- the receipts since the base are of entries, in the order of the journal
pub record IsSettled (before : ℕ) (journal : List JournalEntry) (session : SessionId) (kept : List Made)
    : Type 0 where
  pub rising : Rise before (since before kept)
  pub entries : AreOfEntries before journal session (since before kept)

abbrev pub AreEachSettled : (before : ℕ) → List JournalEntry → List SeatNotes → Type 0
AreEachSettled before journal [] = ⊤
AreEachSettled before journal (s ∷ ss) =
    IsSettled before journal s.who s.receipts × AreEachSettled before journal ss

-- how many receipts of entries since the base the seats have
abbrev pub receipts_since : (before : ℕ) → List SeatNotes → ℕ
receipts_since before seats = sum_by (λ s. length (since before s.receipts)) seats

-- the greatest place of a base that a turn-over told a seat, 0 if there was none
abbrev pub last_base : List SeatNotes → ℕ
last_base [] = 0
last_base (s ∷ ss) = max s.base (last_base ss)

-- the seats have a receipt of each entry since the base, and the base is where they were told
pub record AreSettled (before : ℕ) (journal : List JournalEntry) (seats : List SeatNotes) : Type 0 where
  pub count : receipts_since before seats ≡ length journal
  pub each : AreEachSettled before journal seats
  pub base : last_base seats ≡ before
