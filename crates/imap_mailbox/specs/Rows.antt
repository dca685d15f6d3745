-- The messages of a mailbox as a user has them, after a list of events (RFC 9051, section 2.3; RFC 7162,
-- section 3.1).
use Rattle.std.specs.Prelude.{◌≡◌, ℕ, ◌+◌, ◌<◌, ◌≤◌, Bool, true, false, not, ◌==◌, ◌||◌, if◌then◌else◌}
use Rattle.std.specs.Prelude.{List, [], ◌∷◌, ◌++◌, map, filter}
use Rattle.imap_modseq.specs.Numbers.{first_number}
use Rattle.imap_syntax.specs.Moments.{Moment}
use Rattle.imap_mailbox.specs.declared.flags.SharedFlags.{SharedFlags}

-- a message as it is added
pub record Arrival : Type 0 where
  pub uid : ℕ
  pub date : Moment
  pub octets : List ℕ
  pub flags : SharedFlags

-- what happens to a message, for all users
pub data Event : Type 0 where
  Added : Arrival → Event
  FlagsSet : ℕ → SharedFlags → Event
  Expunged : ℕ → Event

-- an event that a user sees: one of all users, or the user's own \Seen set or taken away
pub data Entry : Type 0 where
  Shared : Event → Entry
  SeenSet : ℕ → Bool → Entry

-- a message as a user has it; the number is its mod-sequence
pub record Row : Type 0 where
  pub uid : ℕ
  pub date : Moment
  pub octets : List ℕ
  pub flags : SharedFlags
  pub seen : Bool
  pub number : ℕ

abbrev pub row_of : ℕ → Arrival → Row
row_of n m = record {
  uid = m.uid;
  date = m.date;
  octets = m.octets;
  flags = m.flags;
  seen = false;
  number = n;
}

-- the row after f and with the number n, if it has the UID
abbrev pub at_uid : ℕ → ℕ → (Row → Row) → Row → Row
at_uid n uid f r = if r.uid == uid then record (f r) { number = n } else r

-- the rows after the event with the number n
abbrev pub row_step : ℕ → Entry → List Row → List Row
row_step n (Shared (Added m)) rows = rows ++ row_of n m ∷ []
row_step n (Shared (FlagsSet uid flags)) rows = map (at_uid n uid (λ r. record r { flags = flags })) rows
row_step n (Shared (Expunged uid)) rows = filter (λ r. not (r.uid == uid)) rows
row_step n (SeenSet uid seen) rows = map (at_uid n uid (λ r. record r { seen = seen })) rows

-- the rows after events of which the first has the number n
abbrev pub rows_from : ℕ → List Entry → List Row → List Row
rows_from n [] rows = rows
rows_from n (e ∷ events) rows = rows_from (n + 1) events (row_step n e rows)

abbrev pub rows_after : List Entry → List Row
rows_after events = rows_from first_number events []

-- the UIDs of expunged messages, each with the number of its event
abbrev pub gone_step : ℕ → Entry → List (ℕ × ℕ) → List (ℕ × ℕ)
gone_step n (Shared (Added m)) gone = gone
gone_step n (Shared (FlagsSet uid flags)) gone = gone
gone_step n (Shared (Expunged uid)) gone = gone ++ (uid, n) ∷ []
gone_step n (SeenSet uid seen) gone = gone

abbrev pub gone_from : ℕ → List Entry → List (ℕ × ℕ) → List (ℕ × ℕ)
gone_from n [] gone = gone
gone_from n (e ∷ events) gone = gone_from (n + 1) events (gone_step n e gone)

abbrev pub gone_after : List Entry → List (ℕ × ℕ)
gone_after events = gone_from first_number events []

-- the UIDs of the messages that are there
abbrev pub uid_step : Event → List ℕ → List ℕ
uid_step (Added m) uids = uids ++ m.uid ∷ []
uid_step (FlagsSet uid flags) uids = uids
uid_step (Expunged uid) uids = filter (λ u. not (u == uid)) uids

abbrev pub uids_from : List Event → List ℕ → List ℕ
uids_from [] uids = uids
uids_from (e ∷ events) uids = uids_from events (uid_step e uids)

-- UIDNEXT
abbrev pub next_step : Event → ℕ → ℕ
next_step (Added m) next = m.uid + 1
next_step (FlagsSet uid flags) next = next
next_step (Expunged uid) next = next

abbrev pub next_from : List Event → ℕ → ℕ
next_from [] next = next
next_from (e ∷ events) next = next_from events (next_step e next)

-- ---- what events of a mailbox meet

abbrev pub first_uid : ℕ
first_uid = 1

-- a message got the UID, if `next` is UIDNEXT
abbrev pub WasGiven : (next uid : ℕ) → Type 0
WasGiven next uid = (first_uid ≤ uid) × (uid < next)

-- a message gets the next UID, and an own change is of a message that was added before it
abbrev pub IsGiven : ℕ → Entry → Type 0
IsGiven next (Shared (Added m)) = m.uid ≡ next
IsGiven next (Shared (FlagsSet uid flags)) = Unit {0}
IsGiven next (Shared (Expunged uid)) = Unit {0}
IsGiven next (SeenSet uid seen) = WasGiven next uid

abbrev pub entry_next : Entry → ℕ → ℕ
entry_next (Shared e) next = next_step e next
entry_next (SeenSet uid seen) next = next

abbrev pub AreGiven : ℕ → List Entry → Type 0
AreGiven next [] = Unit {0}
AreGiven next (e ∷ events) = IsGiven next e × AreGiven (entry_next e next) events

abbrev pub is_among : ℕ → List ℕ → Bool
is_among uid [] = false
is_among uid (u ∷ uids) = (u == uid) || is_among uid uids

-- only a message that is there is expunged
abbrev pub IsPresent : List ℕ → Event → Type 0
IsPresent uids (Added m) = Unit {0}
IsPresent uids (FlagsSet uid flags) = Unit {0}
IsPresent uids (Expunged uid) = is_among uid uids ≡ true

abbrev pub ArePresent : List ℕ → List Event → Type 0
ArePresent uids [] = Unit {0}
ArePresent uids (e ∷ events) = IsPresent uids e × ArePresent (uid_step e uids) events
