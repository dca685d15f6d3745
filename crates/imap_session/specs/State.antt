-- An open session, and what becomes of it (RFC 9051, section 3).
use Rattle.std.specs.Prelude.{ℕ, ◌≤◌, Bool, ◌||◌, List, Option, Some, None, option_map, refl}
use Rattle.std.specs.Coded.{Coded, code_by, coded×, coded_ℕ, coded_bool, coded_list, coded_option}
use Rattle.imap_print.specs.contracts.enabled.EnabledCapabilities as enabled
use Rattle.imap_listing.specs.Answer.{nothing_enabled}
use Rattle.imap_names.specs.Name.{Name}
use Rattle.imap_print.specs.declared.enabled.EnabledCapabilities.{EnabledCapabilities}
use Rattle.imap_session.specs.declared.session.Selected.{Selected}
use Rattle.imap_session.specs.declared.session.Session.{Session}
use Rattle.imap_session.specs.Telling.{Telling, IsTellingOf, known_with, room_for}

-- ---- a session as definitions see it: without room

-- the selected mailbox, with the UIDVALIDITY that it had, and the UIDs of its messages that the session knows. The
-- session was told all up to the mod-sequence `up_to`, but for expunges that were held back
pub record Selection : Type 0 where
  pub name : Name
  pub validity : ℕ
  pub read_only : Bool
  pub known : List ℕ
  pub up_to : ℕ

pub record SessionState : Type 0 where
  pub selected : Option Selection
  pub enabled : EnabledCapabilities
  pub idle : Option (List ℕ)

abbrev pub selection_code : Coded Selection
selection_code =
    code_by (Name × (ℕ × (Bool × (List ℕ × ℕ))))
    (coded× (coded_list (coded_list coded_ℕ)) (coded× coded_ℕ
    (coded× coded_bool (coded× (coded_list coded_ℕ) coded_ℕ))))
    (λ s. (s.name, (s.validity, (s.read_only, (s.known, s.up_to)))))
    (λ p. record {
      name = p.0;
      validity = p.1.0;
      read_only = p.1.1.0;
      known = p.1.1.1.0;
      up_to = p.1.1.1.1;
    }) (λ _. refl)

abbrev pub session_code : Coded SessionState
session_code =
    code_by (Option Selection × (EnabledCapabilities × Option (List ℕ)))
    (coded× (coded_option selection_code) (coded× enabled.the_row.coded (coded_option (coded_list coded_ℕ))))
    (λ s. (s.selected, (s.enabled, s.idle)))
    (λ p. record { selected = p.0; enabled = p.1.0; idle = p.1.1 }) (λ _. refl)

abbrev pub selection_of : Selected → Selection
selection_of s = record {
  name = s.name;
  validity = s.validity;
  read_only = s.read_only;
  known = s.known.list;
  up_to = s.up_to;
}

abbrev pub state_of : Session → SessionState
state_of s = record { selected = option_map selection_of s.selected; enabled = s.enabled; idle = s.idle }

abbrev pub selected_name : SessionState → Option Name
selected_name state = option_map (λ s. s.name) state.selected

abbrev pub new_session : SessionState
new_session = record { selected = None; enabled = nothing_enabled; idle = None }

-- with further capabilities enabled
abbrev pub both_enabled : (more enabled : EnabledCapabilities) → EnabledCapabilities
both_enabled more enabled = record {
  condstore = more.condstore || enabled.condstore;
  imap4rev2 = more.imap4rev2 || enabled.imap4rev2;
  qresync = more.qresync || enabled.qresync;
}

abbrev pub with_enabled : EnabledCapabilities → SessionState → SessionState
with_enabled more state = record {
  selected = state.selected;
  enabled = both_enabled more state.enabled;
  idle = state.idle;
}

-- with another mailbox selected, or none
abbrev pub with_selection : Option Selection → SessionState → SessionState
with_selection selection state = record {
  selected = selection;
  enabled = state.enabled;
  idle = state.idle;
}

-- ---- what the session is told of its mailbox

abbrev pub with_telling : Telling → Selection → Selection
with_telling t s = record s { known = known_with t s.known; up_to = t.up_to }

abbrev pub with_told : Telling → SessionState → SessionState
with_told t state = with_selection (option_map (with_telling t) state.selected) state

-- it is a change of the known list, if a mailbox is selected
abbrev pub IsTellingFor : Telling → Option Selection → Type 0
IsTellingFor t None = Unit {0}
IsTellingFor t (Some s) = IsTellingOf s.known t

-- ---- room

-- the room of the known list: what a change takes is in `room_for`
abbrev pub room_in : Option Selected → ℕ
room_in None = 0
room_in (Some s) = s.known.room

abbrev pub room_of : Session → ℕ
room_of session = room_in session.selected

-- if no mailbox is selected, none is needed
abbrev pub HasRoomFor : (needed room : ℕ) → Option Selection → Type 0
HasRoomFor needed room None = Unit {0}
HasRoomFor needed room (Some s) = needed ≤ room

-- it takes no memory in this room
pub record IsTellingReady (t : Telling) (room : ℕ) (selected : Option Selection) : Type 0 where
  pub change : IsTellingFor t selected
  pub fits : HasRoomFor (room_for t) room selected
