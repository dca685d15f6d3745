-- A mailbox by all that happened: the events of all users, and each user's own changes of \Seen.
use Rattle.std.specs.Prelude.{ℕ, ◌+◌, ◌-◌, min, Bool, List, [], ◌∷◌, ◌++◌, length, map, unwrap_or}
use Rattle.std.specs.FinMap as fin
use Rattle.imap_user_map.specs.Rows.{Users}
use Rattle.imap_modseq.specs.Merge.{Own, merge, befores, AreInOrder}
use Rattle.imap_modseq.specs.Numbers.{max_events}
use Rattle.imap_mailbox.specs.declared.own.SeenChange.{SeenChange}
use Rattle.imap_mailbox.specs.Rows.{Event, Entry, Shared, SeenSet, Row, rows_after, gone_after, uids_from}
use Rattle.imap_mailbox.specs.Rows.{next_from}
use Rattle.imap_mailbox.specs.Rows.{AreGiven, ArePresent, first_uid}

-- an own change has the number of shared events before it
pub record History : Type 0 where
  pub shared : List Event
  pub own : Users (List SeenChange)

-- the own changes of a user, who may have none
abbrev pub changes_at : Users (List SeenChange) → List ℕ → List SeenChange
changes_at own user = unwrap_or (fin.get own user) []

abbrev pub own_entry : SeenChange → Own Entry
own_entry s = (s.before, SeenSet s.uid s.seen)

-- the events that the user sees, in their order
abbrev pub events_of : History → List ℕ → List Entry
events_of history user = merge (map Shared history.shared) (map own_entry (changes_at history.own user))

abbrev pub rows : History → List ℕ → List Row
rows history user = rows_after (events_of history user)

abbrev pub gone : History → List ℕ → List (ℕ × ℕ)
gone history user = gone_after (events_of history user)

-- HIGHESTMODSEQ (RFC 7162, section 3.1.2.1)
abbrev pub highest : History → List ℕ → ℕ
highest history user = 1 + length (events_of history user)

abbrev pub uids : History → List ℕ
uids history = uids_from history.shared []

abbrev pub next_uid : History → ℕ
next_uid history = next_from history.shared first_uid

-- the greatest UIDNEXT, at which no UID is left (RFC 9051, section 9, `nz-number`)
abbrev pub end_uid : ℕ
end_uid = 4294967295

-- the least of the messages, the UIDs and the shared events that are left
abbrev pub room_by : ℕ → ℕ → ℕ → ℕ → ℕ
room_by max_messages messages next events =
    min (max_messages - messages) (min (end_uid - next) (max_events - events))

abbrev pub room : ℕ → History → ℕ
room max_messages history =
    room_by max_messages (length (uids history)) (next_uid history) (length history.shared)

-- what the events of a mailbox meet, as the user sees them: own changes stand in order, after shared events
-- that are there; UIDs are given in turn, an own change is of a UID given before it, and a message is
-- expunged once
pub record IsLawful (history : History) (user : List ℕ) : Type 0 where
  pub order : AreInOrder 0 (length history.shared) (befores (map own_entry (changes_at history.own user)))
  pub given : AreGiven first_uid (events_of history user)
  pub present : ArePresent [] history.shared

-- ---- with one change more

abbrev pub with_event : Event → History → History
with_event e history = record { shared = history.shared ++ e ∷ []; own = history.own }

abbrev pub changes_with : Users (List SeenChange) → List ℕ → ℕ → ℕ → Bool → Users (List SeenChange)
changes_with own user n uid seen =
    fin.insert own user (changes_at own user ++ record { before = n; uid = uid; seen = seen } ∷ [])

abbrev pub with_own_change : List ℕ → ℕ → Bool → History → History
with_own_change user uid seen history =
    record { shared = history.shared; own = changes_with history.own user (length history.shared) uid seen }
