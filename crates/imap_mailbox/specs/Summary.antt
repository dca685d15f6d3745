-- A mailbox by its summary: the messages that are there, those that are gone, and what is counted.
use Rattle.std.specs.Prelude.{◌≡◌, ℕ, ◌+◌, ◌<◌, ◌≤◌, max, nat_le, nat_lt, Bool, false, not, ◌==◌, ◌&&◌}
use Rattle.std.specs.Prelude.{if◌then◌else◌}
use Rattle.std.specs.Prelude.{List, [], ◌∷◌, ◌++◌, length, map, filter, slice_index, Option, Some, None, option_map}
use Rattle.std.specs.FinMap as fin
use Rattle.imap_user_map.specs.Finite.{map_values}
use Rattle.imap_user_map.specs.Rows.{Users}
use Rattle.imap_modseq.specs.Merge.{AreInOrder}
use Rattle.imap_modseq.specs.Numbers.{shared_number, own_number, highest_after}
use Rattle.imap_mailbox.specs.declared.flags.SharedFlags.{SharedFlags}
use Rattle.imap_mailbox.specs.declared.kept_change.KeptChange.{KeptChange}
use Rattle.imap_mailbox.specs.declared.own.SeenChange.{SeenChange}
use Rattle.imap_mailbox.specs.declared.message.Message.{Message}
use Rattle.imap_mailbox.specs.declared.message.GoneMessage.{GoneMessage}
use Rattle.imap_mailbox.specs.Rows.{Arrival, Event, Added, FlagsSet, Expunged, Row, is_among, first_uid}
use Rattle.imap_mailbox.specs.Rows.{WasGiven}
use Rattle.imap_mailbox.specs.History.{History, room_by}
use Rattle.imap_mailbox.specs.Own.{Own, own_at, found_in, numbered, with_change}

-- `next` is UIDNEXT, and `shared` the number of shared events
pub record Summary : Type 0 where
  pub messages : List Message
  pub gone : List GoneMessage
  pub next : ℕ
  pub shared : ℕ
  pub own : Users Own

-- ---- its steps

abbrev pub message_of : ℕ → Arrival → Message
message_of p m = record { uid = m.uid; date = m.date; octets = m.octets; flags = m.flags; place = p }

-- the message after the shared event at the place p, which sets the flags of the UID
abbrev pub flags_in : ℕ → SharedFlags → ℕ → Message → Message
flags_in uid flags p m =
    if m.uid == uid
    then record { uid = m.uid; date = m.date; octets = m.octets; flags = flags; place = p }
    else m

abbrev pub without : ℕ → List Message → List Message
without uid messages = filter (λ m. not (m.uid == uid)) messages

abbrev pub with_arrival : Arrival → Summary → Summary
with_arrival m s = record {
  messages = s.messages ++ message_of s.shared m ∷ [];
  gone = s.gone;
  next = m.uid + 1;
  shared = s.shared + 1;
  own = s.own;
}

abbrev pub with_flags : ℕ → SharedFlags → Summary → Summary
with_flags uid flags s = record {
  messages = map (flags_in uid flags s.shared) s.messages;
  gone = s.gone;
  next = s.next;
  shared = s.shared + 1;
  own = s.own;
}

abbrev pub with_expunge : ℕ → Summary → Summary
with_expunge uid s = record {
  messages = without uid s.messages;
  gone = s.gone ++ record { uid = uid; place = s.shared } ∷ [];
  next = s.next;
  shared = s.shared + 1;
  own = s.own;
}

abbrev pub step : Event → Summary → Summary
step (Added m) s = with_arrival m s
step (FlagsSet uid flags) s = with_flags uid flags s
step (Expunged uid) s = with_expunge uid s

-- with one more own change of the user, after n shared events
abbrev pub own_with : Users Own → List ℕ → (n uid : ℕ) → Bool → Users Own
own_with own user n uid seen =
    fin.insert own user (with_change (record { before = n; uid = uid; seen = seen }) (own_at own user))

abbrev pub with_seen : List ℕ → ℕ → Bool → Summary → Summary
with_seen user uid seen s = record {
  messages = s.messages;
  gone = s.gone;
  next = s.next;
  shared = s.shared;
  own = own_with s.own user s.shared uid seen;
}

abbrev pub steps : List Event → Summary → Summary
steps [] s = s
steps (e ∷ events) s = steps events (step e s)

-- of all own changes what is found of them
abbrev pub found_of : Users (List SeenChange) → Users Own
found_of own = map_values (λ changes. found_in (numbered 0 changes)) own

-- of a mailbox without shared events
abbrev pub new_summary : Users Own → Summary
new_summary own = record { messages = []; gone = []; next = first_uid; shared = 0; own = own }

abbrev pub summary_of : History → Summary
summary_of history = steps history.shared (new_summary (found_of history.own))

-- ---- what it says to a user

-- the number of the change, and what it sets
abbrev pub shown : KeptChange → ℕ × Bool
shown k = (own_number k.before k.place, k.seen)

-- the last own change of the UID: its number, and what it sets
abbrev pub latest : ℕ → Own → Option (ℕ × Bool)
latest uid own = option_map shown (fin.get own.latest uid)

abbrev pub latest_number : Option (ℕ × Bool) → ℕ
latest_number None = 0
latest_number (Some f) = f.0

abbrev pub latest_seen : Option (ℕ × Bool) → Bool
latest_seen None = false
latest_seen (Some f) = f.1

-- the number of the shared event at the place, for a user with these own changes
abbrev pub number_at : Own → ℕ → ℕ
number_at own place = shared_number own.befores place

-- the message as the user with these own changes has it: its number is that of its last event, shared or own
abbrev pub row_in : Own → Message → Row
row_in own m = record {
  uid = m.uid;
  date = m.date;
  octets = m.octets;
  flags = m.flags;
  seen = latest_seen (latest m.uid own);
  number = max (number_at own m.place) (latest_number (latest m.uid own));
}

abbrev pub gone_in : Own → GoneMessage → ℕ × ℕ
gone_in own g = (g.uid, number_at own g.place)

abbrev pub rows_of : Summary → List ℕ → List Row
rows_of s user = map (row_in (own_at s.own user)) s.messages

abbrev pub gone_of : Summary → List ℕ → List (ℕ × ℕ)
gone_of s user = map (gone_in (own_at s.own user)) s.gone

abbrev pub highest_of : Summary → List ℕ → ℕ
highest_of s user = highest_after s.shared (length (own_at s.own user).befores)

abbrev pub room_of : ℕ → Summary → ℕ
room_of max_messages s = room_by max_messages (length s.messages) s.next s.shared

-- ---- what the type of a mailbox keeps

abbrev pub ArePlacesBelow : ℕ → List Message → Type 0
ArePlacesBelow n [] = Unit {0}
ArePlacesBelow n (m ∷ messages) = (m.place < n) × ArePlacesBelow n messages

-- the numbers rise, from `low` or more, and are below `high`
abbrev pub Rises : ℕ → ℕ → List ℕ → Type 0
Rises low high [] = low ≤ high
Rises low high (n ∷ ns) = (low ≤ n) × Rises (n + 1) high ns

-- each is greater than the one before
abbrev pub AreRising : List ℕ → Type 0
AreRising uids = (low high : ℕ) × Rises low high uids

abbrev pub uids_in : List Message → List ℕ
uids_in messages = map (λ m. m.uid) messages

abbrev pub gone_uids : List GoneMessage → List ℕ
gone_uids gone = map (λ g. g.uid) gone

abbrev pub places_in : List GoneMessage → List ℕ
places_in gone = map (λ g. g.place) gone

abbrev pub message_places : List Message → List ℕ
message_places messages = map (λ m. m.place) messages

-- how often the number stands in the list
abbrev pub count_of : ℕ → List ℕ → ℕ
count_of n [] = 0
count_of n (m ∷ ns) = if m == n then 1 + count_of n ns else count_of n ns

-- no two messages have one place, whether they are there or gone
abbrev pub AreApart : List Message → List GoneMessage → Type 0
AreApart messages gone = (place : ℕ)
    → count_of place (message_places messages) + count_of place (places_in gone) ≤ 1

-- the change is one of the user's, and of this UID
pub record IsLast (befores : List ℕ) (uid : ℕ) (k : KeptChange) : Type 0 where
  pub uid_is : k.uid ≡ uid
  pub place : k.place < length befores
  pub before : slice_index befores k.place ≡ k.before

-- each last change is one of the user's, and of a UID that was given
abbrev pub AreOfGiven : (next : ℕ) → Own → Type 0
AreOfGiven next own =
    (uid : ℕ) (k : KeptChange) → fin.get own.latest uid ≡ Some k → WasGiven next uid × IsLast own.befores uid k

-- a user's own changes stand in order, after shared events that are there, and are of UIDs that were given
pub record Fits (shared next : ℕ) (own : Own) : Type 0 where
  pub order : AreInOrder 0 shared own.befores
  pub known : AreOfGiven next own

abbrev pub is_given : ℕ → ℕ → Bool
is_given uid next = nat_le first_uid uid && nat_lt uid next

-- how many messages got the UID
abbrev pub given_once : (next uid : ℕ) → ℕ
given_once next uid = if is_given uid next then 1 else 0

abbrev pub is_there : ℕ → Summary → Bool
is_there uid s = is_among uid (uids_in s.messages)

-- UIDs of messages rise; each UID that was given is there or gone, once, and no other is; each message has a
-- place of its own, and the places of gone messages rise
pub record IsSound (s : Summary) : Type 0 where
  pub uids : Rises first_uid s.next (uids_in s.messages)
  pub once : (uid : ℕ)
      → count_of uid (uids_in s.messages) + count_of uid (gone_uids s.gone) ≡ given_once s.next uid
  pub apart : AreApart s.messages s.gone
  pub place : ArePlacesBelow s.shared s.messages
  pub places : Rises 0 s.shared (places_in s.gone)
  pub fits : (user : List ℕ) → Fits s.shared s.next (own_at s.own user)
