-- What holds of every batch.
use Rattle.std.specs.Prelude.{◌≡◌, ◌≢◌, ℕ, ◌≤◌, is_some, not, true, List, [], Ok}
use Rattle.std.specs.List.{list_all}
use Rattle.imap_mailbox.specs.Brought.{IsLater}
use Rattle.imap_mailbox.specs.Held.{IsKept}
use Rattle.imap_mailbox.specs.Shown.{Rights, content_of, shown_to}
use Rattle.imap_mailbox.specs.Summary.{Summary}
use Rattle.imap_batch.specs.declared.batch.Batch.{Batch}
use Rattle.imap_batch.specs.declared.batch.FlagUpdate.{FlagUpdate}
use Rattle.imap_batch.specs.declared.write.BatchWrite.{BatchWrite}
use Rattle.imap_batch.specs.Batch.{write_for}
use Rattle.imap_batch.specs.Written.{with_batch, MayWrite}
use Rattle.imap_batch.specs.Seen.{batch_seen, IsPossible}

-- ---- what is found may be written

abbrev pub WritesMayBeMade : Type 0
WritesMayBeMade =
    (b : Batch) (s : Summary) (w : BatchWrite) → write_for b s ≡ Ok w → (w.batch ≡ b) × MayWrite w s

-- ---- what is kept stays so

-- UIDNEXT and the number of shared events don't fall, and a session that was brought up stays so
pub record IsGrown (s t : Summary) : Type 0 where
  pub next : s.next ≤ t.next
  pub shared : s.shared ≤ t.shared
  pub later : (user : List ℕ) → IsLater (content_of user s) (content_of user t)

abbrev pub BatchesKeep : Type 0
BatchesKeep =
    (s : Summary) (w : BatchWrite) → MayWrite w s → IsKept s
    → IsKept (with_batch w.batch s) × IsGrown s (with_batch w.batch s)

-- ---- what is seen

-- a user's own batch is seen as a function of what was seen before and of the batch
abbrev pub BatchIsSeen : Type 0
BatchIsSeen =
    (max_messages : ℕ) (user : List ℕ) (r : Rights) (s : Summary) (b : Batch)
    → IsKept s → b.user ≡ user → IsPossible b (shown_to max_messages user r s)
    → shown_to max_messages user r (with_batch b s)
    ≡ batch_seen max_messages b (shown_to max_messages user r s)

pub record IsFound (b : Batch) (s : Summary) : Type 0 where
  pub write : BatchWrite
  pub found : write_for b s ≡ Ok write

-- what is possible by what is seen can be made
abbrev pub PossibleIsMade : Type 0
PossibleIsMade =
    (max_messages : ℕ) (user : List ℕ) (r : Rights) (s : Summary) (b : Batch)
    → IsKept s → IsPossible b (shown_to max_messages user r s) → IsFound b s

-- only the \Seen of its user changes
pub record MarksOwnSeen (b : Batch) : Type 0 where
  pub added : b.added ≡ []
  pub flags : list_all (λ (k : FlagUpdate). not (is_some k.flags)) b.marks ≡ true
  pub expunged : b.expunged ≡ []

abbrev pub AnothersSeenIsHidden : Type 0
AnothersSeenIsHidden =
    (max_messages : ℕ) (user : List ℕ) (r : Rights) (s : Summary) (b : Batch)
    → user ≢ b.user → MarksOwnSeen b
    → shown_to max_messages user r (with_batch b s) ≡ shown_to max_messages user r s

abbrev pub EmptyChangesNothing : Type 0
EmptyChangesNothing =
    (s : Summary) (b : Batch) → b.added ≡ [] → b.marks ≡ [] → b.expunged ≡ [] → with_batch b s ≡ s
