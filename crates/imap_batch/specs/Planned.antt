-- The rows of a mailbox as a batch will leave them to its user, found along the rows that are there.
use Rattle.std.specs.Prelude.{◌≡◌, ℕ, ◌+◌, ◌<◌, ◌≤◌, nat_lt, ◌==◌, not, Bool, true, false, if◌then◌else◌, ⊤}
use Rattle.std.specs.Prelude.{List, [], ◌∷◌, ◌++◌, length, drop, filter, Option, Some, None, is_some}
use Rattle.imap_modseq.specs.Numbers.{max_events, number_after}
use Rattle.imap_mailbox.specs.declared.flags.SharedFlags.{SharedFlags}
use Rattle.imap_mailbox.specs.Rows.{Row, row_of, is_among}
use Rattle.imap_mailbox.specs.Held.{IsKept}
use Rattle.imap_mailbox.specs.History.{end_uid}
use Rattle.imap_mailbox.specs.Calls.{arrival}
use Rattle.imap_mailbox.specs.Order.{AreRowsInOrder}
use Rattle.imap_mailbox.specs.Summary.{Summary, AreRising, rows_of}
use Rattle.imap_batch.specs.declared.batch.NewMessage.{NewMessage}
use Rattle.imap_batch.specs.declared.batch.FlagUpdate.{FlagUpdate}
use Rattle.imap_batch.specs.declared.write.BatchWrite.{BatchWrite}
use Rattle.imap_batch.specs.declared.marks_left.MarksLeft.{MarksLeft}
use Rattle.imap_batch.specs.declared.added_left.AddedLeft.{AddedLeft}
use Rattle.imap_batch.specs.Batch.{one_if, flag_count}
use Rattle.imap_batch.specs.Written.{with_batch, MayWrite}

-- ---- one message, after `shared` shared events and `own` own changes

-- the number of own changes after one that is made if the user has an event left
abbrev pub own_after : (own : ℕ) → Option Bool → ℕ
own_after own None = own
own_after own (Some seen) = if nat_lt own max_events then own + 1 else own

abbrev pub row_with_flags : (number : ℕ) → Option SharedFlags → Row → Row
row_with_flags number None r = r
row_with_flags number (Some flags) r = record {
  uid = r.uid;
  date = r.date;
  octets = r.octets;
  flags = flags;
  seen = r.seen;
  number = number;
}

abbrev pub row_with_seen : (own number : ℕ) → Option Bool → Row → Row
row_with_seen own number None r = r
row_with_seen own number (Some seen) r =
    if nat_lt own max_events
    then record {
      uid = r.uid;
      date = r.date;
      octets = r.octets;
      flags = r.flags;
      seen = seen;
      number = number;
    }
    else r

abbrev pub row_marked : (shared own : ℕ) → FlagUpdate → Row → Row
row_marked shared own k r =
    row_with_seen own (number_after (shared + one_if (is_some k.flags)) own) k.seen
    (row_with_flags (number_after shared own) k.flags r)

-- the change of the user's own \Seen with which the message is added
abbrev pub seen_added : NewMessage → Option Bool
seen_added m = if m.seen then Some true else None

abbrev pub row_added : (uid shared own : ℕ) → NewMessage → Row
row_added uid shared own m =
    row_with_seen own (number_after (shared + 1) own) (seen_added m)
    (row_of (number_after shared own) (arrival uid m.date m.octets m.flags))

-- ---- all messages

-- the rows and the marks are in the order of UIDs
abbrev pub rows_marked : (shared own : ℕ) → List FlagUpdate → List Row → List Row
rows_marked shared own [] rows = rows
rows_marked shared own (k ∷ marks) [] = []
rows_marked shared own (k ∷ marks) (r ∷ rows) =
    if k.uid == r.uid
    then row_marked shared own k r
    ∷ rows_marked (shared + one_if (is_some k.flags)) (own_after own k.seen) marks rows
    else r ∷ rows_marked shared own (k ∷ marks) rows

abbrev pub rows_left : (expunged : List ℕ) → List Row → List Row
rows_left expunged rows = filter (λ r. not (is_among r.uid expunged)) rows

abbrev pub rows_added : (uid shared own : ℕ) → List NewMessage → List Row
rows_added uid shared own [] = []
rows_added uid shared own (m ∷ added) =
    row_added uid shared own m ∷ rows_added (uid + 1) (shared + 1) (own_after own (seen_added m)) added

abbrev pub own_after_all : (own : ℕ) → List NewMessage → ℕ
own_after_all own [] = own
own_after_all own (m ∷ added) = own_after_all (own_after own (seen_added m)) added

-- the numbers of what is added come first, and then those of marks
abbrev pub rows_planned : BatchWrite → List Row → List Row
rows_planned w rows =
    let added = w.batch.added in
    rows_left w.batch.expunged
    (rows_marked (w.first_place + length added) (own_after_all w.own_before added) w.batch.marks rows)
    ++ rows_added w.first_uid w.first_place w.own_before added

-- they are the rows that the batch leaves
abbrev pub BatchIsPlanned : Type 0
BatchIsPlanned =
    (s : Summary) (w : BatchWrite) → MayWrite w s → IsKept s
    → rows_planned w (rows_of s w.batch.user) ≡ rows_of (with_batch w.batch s) w.batch.user

-- the UID of the first, if there is one
abbrev pub first_uid : List Row → Option ℕ
first_uid [] = None
first_uid (r ∷ rows) = Some r.uid

-- ---- what is left of them, while they are lent in turn

-- events are left for the marks
pub record CanMark (m : MarksLeft) : Type 0 where
  pub shared : m.shared + flag_count m.marks.now ≤ max_events
  pub own : m.own ≤ max_events

-- UIDs and events are left for the messages
pub record CanAdd (a : AddedLeft) : Type 0 where
  pub shared : a.shared + length a.added.now ≤ max_events
  pub own : a.own ≤ max_events
  pub uids : 0 < length a.added.now → a.uid + length a.added.now ≤ end_uid

-- a row with the first of the marks, if that is of its UID
abbrev pub row_with_first : (shared own : ℕ) → List FlagUpdate → Row → Row
row_with_first shared own [] r = r
row_with_first shared own (k ∷ marks) r = if k.uid == r.uid then row_marked shared own k r else r

abbrev pub with_first : MarksLeft → Row → Row
with_first m r = row_with_first m.shared m.own m.marks.now r

abbrev pub marked_by : MarksLeft → List Row → List Row
marked_by m rows = rows_marked m.shared m.own m.marks.now rows

abbrev pub added_by : AddedLeft → List Row
added_by a = rows_added a.uid a.shared a.own a.added.now

-- the first of the rows, if there is one, is not expunged
abbrev pub StartsLeft : (expunged : List ℕ) → List Row → Type 0
StartsLeft expunged [] = ⊤
StartsLeft expunged (r ∷ rows) = is_among r.uid expunged ≡ false

-- the next row has this place
pub record IsPlan (m : MarksLeft) (uids : List ℕ) (a : AddedLeft) (highest place : ℕ) (rows : List Row)
    : Type 0 where
  pub marks : CanMark m
  pub expunged : AreRising uids
  pub added : CanAdd a
  pub starts : StartsLeft uids (drop place rows)
  pub order : (next : ℕ) × AreRowsInOrder next highest rows
