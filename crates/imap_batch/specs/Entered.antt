-- The rows that a store writes for a batch, by its numbers alone.
use Rattle.std.specs.Prelude.{◌≡◌, ◌≢◌, ℕ, ◌+◌, ◌-◌, Bool, true, is_some, if◌then◌else◌}
use Rattle.std.specs.Prelude.{List, [], ◌∷◌, ◌++◌, length, map, take, Option, Some, None}
use Rattle.imap_modseq.specs.Numbers.{max_events}
use Rattle.imap_mailbox.specs.declared.kept_change.KeptChange.{KeptChange}
use Rattle.imap_mailbox.specs.declared.own.SeenChange.{SeenChange}
use Rattle.imap_mailbox.specs.declared.message.Message.{Message}
use Rattle.imap_mailbox.specs.declared.message.GoneMessage.{GoneMessage}
use Rattle.imap_mailbox.specs.declared.flags.SharedFlags.{SharedFlags}
use Rattle.imap_mailbox.specs.Expunging.{without_all, gone_at}
use Rattle.imap_mailbox.specs.KeptRows.{AreKept, without_row}
use Rattle.imap_mailbox.specs.Own.{found_in, numbered, own_at, with_changes}
use Rattle.imap_mailbox.specs.Summary.{Summary, flags_in}
use Rattle.imap_batch.specs.declared.batch.NewMessage.{NewMessage}
use Rattle.imap_batch.specs.declared.batch.FlagUpdate.{FlagUpdate}
use Rattle.imap_batch.specs.declared.write.BatchWrite.{BatchWrite}
use Rattle.imap_batch.specs.Batch.{one_if, flag_count, event_count, own_made}
use Rattle.imap_batch.specs.Written.{with_batch, MayWrite}

-- ---- messages that are added, with UIDs and places in turn

abbrev pub messages_from : (uid place : ℕ) → List NewMessage → List Message
messages_from uid place [] = []
messages_from uid place (m ∷ added) =
    record { uid = uid; date = m.date; octets = m.octets; flags = m.flags; place = place }
    ∷ messages_from (uid + 1) (place + 1) added

abbrev pub messages_added : BatchWrite → List Message
messages_added w = messages_from w.first_uid w.first_place w.batch.added

-- ---- shared flags that change, with the place of each event

pub record FlagChange : Type 0 where
  pub uid : ℕ
  pub flags : SharedFlags
  pub place : ℕ

abbrev pub flag_change : (place uid : ℕ) → Option SharedFlags → List FlagChange
flag_change place uid None = []
flag_change place uid (Some flags) = record { uid = uid; flags = flags; place = place } ∷ []

abbrev pub flags_from : (place : ℕ) → List FlagUpdate → List FlagChange
flags_from place [] = []
flags_from place (k ∷ marks) =
    flag_change place k.uid k.flags ++ flags_from (place + one_if (is_some k.flags)) marks

-- the place of the first event of a mark
abbrev pub mark_place : BatchWrite → ℕ
mark_place w = w.first_place + length w.batch.added

abbrev pub flag_changes : BatchWrite → List FlagChange
flag_changes w = flags_from (mark_place w) w.batch.marks

-- ---- own changes

-- those past the user's events are left away
abbrev pub own_changes : BatchWrite → List SeenChange
own_changes w = own_made w.first_uid w.first_place w.own_before w.batch

-- ---- messages that are expunged, with the place of each event

abbrev pub gone_added : BatchWrite → List GoneMessage
gone_added w = gone_at (mark_place w + flag_count w.batch.marks) w.batch.expunged

-- ---- what they make of a mailbox

-- one change after the other
abbrev pub with_flag_changes : List FlagChange → List Message → List Message
with_flag_changes [] messages = messages
with_flag_changes (c ∷ changes) messages =
    with_flag_changes changes (map (flags_in c.uid c.flags c.place) messages)

-- t is s after the rows of w were entered
pub record IsEntered (w : BatchWrite) (s t : Summary) : Type 0 where
  pub messages : t.messages
      ≡ without_all w.batch.expunged (with_flag_changes (flag_changes w) (s.messages ++ messages_added w))
  pub gone : t.gone ≡ s.gone ++ gone_added w
  pub next : t.next ≡ s.next + length w.batch.added
  pub shared : t.shared ≡ s.shared + event_count w.batch
  pub own : own_at t.own w.batch.user ≡ with_changes (own_changes w) (own_at s.own w.batch.user)
  pub others : (user : List ℕ) → user ≢ w.batch.user → own_at t.own user ≡ own_at s.own user

abbrev pub WritesAreEntered : Type 0
WritesAreEntered = (s : Summary) (w : BatchWrite) → MayWrite w s → IsEntered w s (with_batch w.batch s)

-- ---- the rows of the user's own changes

abbrev pub without_rows : (places : List ℕ) → List KeptChange → List KeptChange
without_rows [] kept = kept
without_rows (place ∷ places) kept = without_rows places (without_row (Some place) kept)

-- those that go are taken out, and then the new ones come
abbrev pub own_rows : BatchWrite → List KeptChange → List KeptChange
own_rows w rows = without_rows w.dropped rows ++ numbered w.own_before (own_changes w)

-- The rows that stand for the user's own changes are in order afterwards, and stand for those after the batch.
abbrev pub OwnRowsFollow : Type 0
OwnRowsFollow = (s : Summary) (w : BatchWrite) (rows : List KeptChange) → MayWrite w s
    → AreKept 0 0 s.shared rows → found_in rows ≡ own_at s.own w.batch.user →
    let t = with_batch w.batch s in
    AreKept 0 0 t.shared (own_rows w rows) × (found_in (own_rows w rows) ≡ own_at t.own w.batch.user)
