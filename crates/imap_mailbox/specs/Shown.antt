-- What a mailbox shows to a user, and how each change shows.
use Rattle.std.specs.Prelude.{◌≡◌, ◌≢◌, ℕ, ◌+◌, ◌-◌, Bool, true, false, ◌||◌, if◌then◌else◌}
use Rattle.std.specs.Prelude.{List, [], ◌∷◌, length, Option, Some, None, option_map}
use Rattle.imap_modseq.specs.Numbers.{first_number}
use Rattle.imap_mailbox.specs.declared.flags.SharedFlags.{SharedFlags}
use Rattle.imap_mailbox.specs.Rows.{Arrival, Event, FlagsSet, Expunged, Shared, SeenSet, Row, row_step}
use Rattle.imap_mailbox.specs.Rows.{gone_step}
use Rattle.imap_mailbox.specs.Rows.{next_step, is_among, IsGiven}
use Rattle.imap_mailbox.specs.Lent.{row_uids}
use Rattle.imap_mailbox.specs.Expunging.{with_expunges}
use Rattle.imap_mailbox.specs.History.{room_by}
use Rattle.imap_mailbox.specs.Own.{own_at}
use Rattle.imap_mailbox.specs.Summary.{Summary, with_arrival, with_flags, with_expunge, with_seen, step}
use Rattle.imap_mailbox.specs.Summary.{rows_of, gone_of, room_of, IsSound}
use Rattle.imap_mailbox.specs.Calls.{if_there}

-- the rights of RFC 4314, section 2.1, that decide what is shown
pub record Rights : Type 0 where
  pub read : Bool
  pub insert : Bool
  pub admin : Bool

pub record Content : Type 0 where
  pub next : ℕ
  pub shared : ℕ
  pub own : ℕ
  pub rows : List Row
  pub gone : List (ℕ × ℕ)

pub record Shown : Type 0 where
  pub content : Option Content
  pub room : Option ℕ

abbrev pub content_of : List ℕ → Summary → Content
content_of user s = record {
  next = s.next;
  shared = s.shared;
  own = length (own_at s.own user).befores;
  rows = rows_of s user;
  gone = gone_of s user;
}

abbrev pub shown_to : ℕ → List ℕ → Rights → Summary → Shown
shown_to max_messages user r s = record {
  content = if r.read || r.admin then Some (content_of user s) else None;
  room = if r.read || (r.insert || r.admin) then Some (room_of max_messages s) else None;
}

-- ---- how it changes

-- the number of the next event
abbrev pub next_number : Content → ℕ
next_number c = first_number + (c.shared + c.own)

abbrev pub content_after : Event → Content → Content
content_after e c = record {
  next = next_step e c.next;
  shared = c.shared + 1;
  own = c.own;
  rows = row_step (next_number c) (Shared e) c.rows;
  gone = gone_step (next_number c) (Shared e) c.gone;
}

abbrev pub content_with_seen : ℕ → Bool → Content → Content
content_with_seen uid seen c = record {
  next = c.next;
  shared = c.shared;
  own = c.own + 1;
  rows = row_step (next_number c) (SeenSet uid seen) c.rows;
  gone = c.gone;
}

abbrev pub room_in : ℕ → Content → ℕ
room_in max_messages c = room_by max_messages (length c.rows) c.next c.shared

-- another user's own \Seen shows nothing
abbrev pub AnothersSeenIsHidden : Type 0
AnothersSeenIsHidden =
    (max_messages : ℕ) (user other : List ℕ) (r : Rights) (s : Summary) (uid : ℕ) (seen : Bool) → user ≢ other
    → shown_to max_messages user r (with_seen other uid seen s) ≡ shown_to max_messages user r s

-- to one who may not read, an added message is one less of room and nothing else
abbrev pub AddIsSeenAsRoom : Type 0
AddIsSeenAsRoom =
    (max_messages : ℕ) (user : List ℕ) (r : Rights) (s : Summary) (m : Arrival)
    → (r.read || r.admin) ≡ false → m.uid ≡ s.next
    → shown_to max_messages user r (with_arrival m s)
    ≡ record { content = None; room = option_map (λ n. n - 1) (shown_to max_messages user r s).room }

-- what a reader sees after a shared event
abbrev pub event_seen : ℕ → Event → Shown → Shown
event_seen max_messages e before = record {
  content = option_map (content_after e) before.content;
  room = option_map (λ c. room_in max_messages (content_after e c)) before.content;
}

-- to one who may read, a shared event is a function of what was seen and of the event
abbrev pub EventIsSeen : Type 0
EventIsSeen =
    (max_messages : ℕ) (user : List ℕ) (r : Rights) (s : Summary) (e : Event)
    → (r.read || r.admin) ≡ true → IsSound s → IsGiven s.next (Shared e)
    → shown_to max_messages user r (step e s) ≡ event_seen max_messages e (shown_to max_messages user r s)

-- and so are the user's own changes of \Seen, to anyone
abbrev pub OwnSeenIsSeen : Type 0
OwnSeenIsSeen =
    (max_messages : ℕ) (user : List ℕ) (r : Rights) (s : Summary) (uid : ℕ) (seen : Bool) → IsSound s →
    let before = shown_to max_messages user r s in
    shown_to max_messages user r (with_seen user uid seen s)
    ≡ record { content = option_map (content_with_seen uid seen) before.content; room = before.room }

-- ---- changes that are decided already: of a UID that no message has they change nothing

abbrev pub if_shown : ℕ → Content → Content → Content
if_shown uid new c = if is_among uid (row_uids c.rows) then new else c

-- they are a function of what was seen and of the change
abbrev pub DecidedIsSeen : Type 0
DecidedIsSeen = (user : List ℕ) (s : Summary) (uid : ℕ) → IsSound s →
    let before = content_of user s in
    ((flags : SharedFlags) → content_of user (if_there uid (with_flags uid flags s) s)
    ≡ if_shown uid (content_after (FlagsSet uid flags) before) before)
    × ((seen : Bool) → content_of user (if_there uid (with_seen user uid seen s) s)
    ≡ if_shown uid (content_with_seen uid seen before) before)
    × (content_of user (if_there uid (with_expunge uid s) s)
    ≡ if_shown uid (content_after (Expunged uid) before) before)

-- several messages that are expunged
abbrev pub content_without : ℕ → Content → Content
content_without uid c = if_shown uid (content_after (Expunged uid) c) c

abbrev pub content_expunged : List ℕ → Content → Content
content_expunged [] c = c
content_expunged (uid ∷ uids) c = content_expunged uids (content_without uid c)

abbrev pub expunges_seen : ℕ → List ℕ → Shown → Shown
expunges_seen max_messages uids before = record {
  content = option_map (content_expunged uids) before.content;
  room = option_map (λ c. room_in max_messages (content_expunged uids c)) before.content;
}

-- to one who may read, they are a function of what was seen and of the UIDs
abbrev pub ExpungesAreSeen : Type 0
ExpungesAreSeen =
    (max_messages : ℕ) (user : List ℕ) (r : Rights) (s : Summary) (uids : List ℕ)
    → (r.read || r.admin) ≡ true → IsSound s
    → shown_to max_messages user r (with_expunges uids s)
    ≡ expunges_seen max_messages uids (shown_to max_messages user r s)
