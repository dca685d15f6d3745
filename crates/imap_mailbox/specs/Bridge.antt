-- What the summary of events says is what the events say.
use Rattle.std.specs.Prelude.{◌≡◌, ℕ, Bool, List, [], length}
use Rattle.std.specs.FinMap as fin
use Rattle.imap_mailbox.specs.Rows.{Event, Shared, WasGiven, IsGiven, IsPresent}
use Rattle.imap_mailbox.specs.History.{History, rows, gone, highest, uids, next_uid, room, IsLawful}
use Rattle.imap_mailbox.specs.History.{with_event, with_own_change}
use Rattle.imap_mailbox.specs.Summary.{summary_of, step, with_seen, rows_of, gone_of, highest_of, room_of}
use Rattle.imap_mailbox.specs.Summary.{IsSound}

abbrev pub RowsAreThoseOfEvents : Type 0
RowsAreThoseOfEvents = (history : History) (user : List ℕ) → IsLawful history user
    → rows_of (summary_of history) user ≡ rows history user

abbrev pub GoneAreThoseOfEvents : Type 0
GoneAreThoseOfEvents = (history : History) (user : List ℕ) → IsLawful history user
    → gone_of (summary_of history) user ≡ gone history user

abbrev pub CountsAreThoseOfEvents : Type 0
CountsAreThoseOfEvents = (history : History) (user : List ℕ) (max_messages : ℕ) →
    let s = summary_of history in
    (s.next ≡ next_uid history)
    × (s.shared ≡ length history.shared)
    × (highest_of s user ≡ highest history user)
    × (room_of max_messages s ≡ room max_messages history)

-- one shared event more
abbrev pub EventsAreSteps : Type 0
EventsAreSteps = (history : History) (e : Event)
    → summary_of (with_event e history) ≡ step e (summary_of history)

-- one own change more
abbrev pub ChangesAreSteps : Type 0
ChangesAreSteps = (history : History) (user : List ℕ) (uid : ℕ) (seen : Bool)
    → summary_of (with_own_change user uid seen history) ≡ with_seen user uid seen (summary_of history)

-- what the events of a mailbox meet is kept by one more, and so holds of every mailbox
abbrev pub LawfulStays : Type 0
LawfulStays =
    ((user : List ℕ) → IsLawful (record { shared = []; own = fin.empty }) user)
    × ((history : History) (user : List ℕ) (e : Event) → IsLawful history user
    → IsGiven (next_uid history) (Shared e) → IsPresent (uids history) e
    → IsLawful (with_event e history) user)
    × ((history : History) (user other : List ℕ) (uid : ℕ) (seen : Bool) → IsLawful history user
    → WasGiven (next_uid history) uid → IsLawful (with_own_change other uid seen history) user)

-- the summary of events is one that the type of a mailbox admits
abbrev pub SummariesAreAdmitted : Type 0
SummariesAreAdmitted = (history : History) → ((user : List ℕ) → IsLawful history user)
    → IsSound (summary_of history)
