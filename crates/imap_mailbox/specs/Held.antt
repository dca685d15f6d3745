-- A mailbox with its room.
use Rattle.std.specs.Prelude.{◌≢◌, ℕ, ◌≤◌, List, [], ◌∷◌, length, Option, Some, None, refl}
use Rattle.std.specs.Coded.{Coded, code_by, coded×, coded_ℕ, coded_list}
use Rattle.std.specs.FinMap as fin
use Rattle.imap_user_map.specs.Rows as users
use Rattle.imap_modseq.specs.Numbers.{max_events}
use Rattle.imap_mailbox.specs.contracts.message.Message as message
use Rattle.imap_mailbox.specs.contracts.message.GoneMessage as gone_message
use Rattle.imap_mailbox.specs.declared.message.Message.{Message}
use Rattle.imap_mailbox.specs.declared.message.GoneMessage.{GoneMessage}
use Rattle.imap_mailbox.specs.Owned.{Owned, owned_code, changes_of}
use Rattle.imap_mailbox.specs.Flags.{HasFewKeywords}
use Rattle.imap_mailbox.specs.Rows.{Event, Added, FlagsSet, Expunged}
use Rattle.imap_mailbox.specs.Own.{Own, no_own, own_at}
use Rattle.imap_mailbox.specs.Summary.{Summary, IsSound}

-- `add_room` is the number of messages that may be added without memory, and `expunge_room` the number of
-- those that may be expunged
pub record Held : Type 0 where
  pub messages : List Message
  pub gone : List GoneMessage
  pub next : ℕ
  pub shared : ℕ
  pub own : users.Rows Owned
  pub add_room : ℕ
  pub expunge_room : ℕ

abbrev pub held_code : Coded Held
held_code =
    code_by (List Message × (List GoneMessage × (ℕ × (ℕ × (users.Rows Owned × (ℕ × ℕ))))))
    (coded× (coded_list message.the_row.coded) (coded× (coded_list gone_message.the_row.coded)
    (coded× coded_ℕ (coded× coded_ℕ (coded× (users.rows_code owned_code) (coded× coded_ℕ coded_ℕ))))))
    (λ h. (h.messages, (h.gone, (h.next, (h.shared, (h.own, (h.add_room, h.expunge_room)))))))
    (λ t. record {
      messages = t.0;
      gone = t.1.0;
      next = t.1.1.0;
      shared = t.1.1.1.0;
      own = t.1.1.1.1.0;
      add_room = t.1.1.1.1.1.0;
      expunge_room = t.1.1.1.1.1.1;
    }) (λ _. refl)

-- each user's own changes
abbrev pub lists : users.Rows Owned → users.Users Own
lists own = changes_of own.map

abbrev pub list_at : users.Rows Owned → List ℕ → Own
list_at own user = own_at (lists own) user

abbrev pub list_room : Option Owned → ℕ
list_room None = 0
list_room (Some o) = o.room

-- the number of own changes of the user that need no memory
abbrev pub own_room : users.Rows Owned → List ℕ → ℕ
own_room own user = list_room (fin.get own.map user)

abbrev pub summary_with : List Message → List GoneMessage → ℕ → ℕ → users.Rows Owned → Summary
summary_with messages gone next shared own =
    record { messages = messages; gone = gone; next = next; shared = shared; own = lists own }

-- the mailbox, whatever its room
abbrev pub summary_in : Held → Summary
summary_in h = summary_with h.messages h.gone h.next h.shared h.own

-- ---- what the type of a mailbox keeps

abbrev pub HaveFewKeywords : List Message → Type 0
HaveFewKeywords [] = Unit {0}
HaveFewKeywords (m ∷ messages) = HasFewKeywords m.flags × HaveFewKeywords messages

-- an entry of the map has own changes
pub record IsKept (s : Summary) : Type 0 where
  pub sound : IsSound s
  pub few : s.shared ≤ max_events
  pub own_few : (user : List ℕ) → length (own_at s.own user).befores ≤ max_events
  pub keywords : HaveFewKeywords s.messages
  pub filled : (user : List ℕ) → fin.get s.own user ≢ Some no_own

-- no message gets more keywords by the event
abbrev pub SetsFewKeywords : Event → Type 0
SetsFewKeywords (Added m) = HasFewKeywords m.flags
SetsFewKeywords (FlagsSet uid flags) = HasFewKeywords flags
SetsFewKeywords (Expunged uid) = Unit {0}
