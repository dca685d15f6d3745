-- What is kept of all messages of a mailbox, so that STATUS need not walk them.
use Rattle.std.specs.Prelude.{◌≡◌, ℕ, ◌+◌, ◌≤◌, min, if◌then◌else◌, Bool, List, ◌∷◌, length, count_by}
use Rattle.std.specs.List.{sum_by}
use Rattle.imap_mailbox.specs.declared.message.Message.{Message}
use Rattle.imap_mailbox.specs.declared.totals.Totals.{Totals}
use Rattle.imap_mailbox.specs.Expunging.{without_all}
use Rattle.imap_mailbox.specs.Status.{max_size}
use Rattle.imap_mailbox.specs.Summary.{Rises}

-- the number of messages with \Deleted
abbrev pub deleted_of : List Message → ℕ
deleted_of messages = count_by (λ m. m.flags.deleted) messages

-- their octets
abbrev pub size_of : List Message → ℕ
size_of messages = sum_by (λ m. length m.octets) messages

-- the size is kept as STATUS says it
pub record AreTotals (messages : List Message) (t : Totals) : Type 0 where
  pub deleted : t.deleted ≡ deleted_of messages
  pub size : t.size ≡ min max_size (size_of messages)

-- with one message more
pub record IsWith (is_deleted : Bool) (len : ℕ) (old new : Totals) : Type 0 where
  pub deleted : new.deleted ≡ old.deleted + (if is_deleted then 1 else 0)
  pub size : new.size ≡ min max_size (old.size + len)

-- with the message of the UID, if there is one. It has `len` octets; no other is of the UID
pub record IsWithAny (uid : ℕ) (messages : List Message) (old new : Totals) : Type 0 where
  pub len : ℕ
  pub size : min max_size new.size ≡ min max_size (old.size + len)
  pub octets : (uids : List ℕ) (high : ℕ) → Rises (uid + 1) high uids
      → len + size_of (without_all (uid ∷ uids) messages) ≡ size_of (without_all uids messages)
  pub deleted : (uids : List ℕ) (high : ℕ) → Rises (uid + 1) high uids
      → new.deleted + deleted_of (without_all (uid ∷ uids) messages)
      ≡ old.deleted + deleted_of (without_all uids messages)
  pub most : new.deleted ≤ old.deleted + 1

-- of all messages but those that are left
pub record AreOfGone (all left : List Message) (went : Totals) : Type 0 where
  pub deleted : went.deleted + deleted_of left ≡ deleted_of all
  pub size : min max_size (went.size + size_of left) ≡ min max_size (size_of all)

-- the totals are those of all messages, and `went` those of the messages that went
pub record ArePartedFrom (left : List Message) (t went : Totals) : Type 0 where
  pub all : List Message
  pub whole : AreTotals all t
  pub gone : AreOfGone all left went
