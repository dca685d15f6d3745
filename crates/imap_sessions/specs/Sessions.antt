-- The open sessions of a user, by their numbers.
use Rattle.std.specs.Prelude.{◌≡◌, ℕ, ◌≤◌, Bool, true, not, ◌==◌, ◌&&◌, List, [], ◌∷◌, length}
use Rattle.std.specs.Prelude.{Option, Some, None, map as map_list}
use Rattle.std.specs.List.{list_any}
use Rattle.std.specs.Vec.{vec_capacity}
use Rattle.std.specs.Ordering.{nat_cmp}
use Rattle.std.specs.FinMap as map
use Rattle.std.specs.FinMap.{FinMap}
use Rattle.std.specs.Coded.{Coded, coded_ℕ}
use Rattle.std.specs.declared.vec.Vec.{Vec}
use Rattle.imap_session.specs.State.{SessionState, new_session, session_code}
use Rattle.imap_session.specs.State.{with_enabled, with_selection}
use Rattle.imap_session.specs.Told.{session_after}
use Rattle.imap_user_map.specs.Finite.{keep}
use Rattle.imap_sessions.specs.declared.sessions.SessionEffect.{SessionEffect}
use Rattle.imap_sessions.specs.declared.sessions.SessionEffect.TheVariants as session
use Rattle.imap_sessions.specs.Held.{HeldSession, held_code}

-- the most sessions that a user may have open at once
abbrev pub max_sessions : ℕ
max_sessions = 16

abbrev pub Own : Type 0
Own = FinMap {K = ℕ} nat_cmp SessionState

-- ---- with the room of each known list

abbrev pub HeldOwn : Type 0
HeldOwn = FinMap {K = ℕ} nat_cmp HeldSession

abbrev pub held_own_code : Coded HeldOwn
held_own_code = map.code coded_ℕ held_code

abbrev pub state_at : (number : ℕ) → HeldSession → Option SessionState
state_at number session = Some session.state

-- the sessions, without room
abbrev pub own_of : HeldOwn → Own
own_of own = keep state_at own

-- the same of entries
abbrev pub states_of : List (ℕ × HeldSession) → List (ℕ × SessionState)
states_of entries = map_list (λ e. (e.0, e.1.state)) entries

-- ---- after a step

-- a session that idles under the tag, or doesn't idle (RFC 2177)
abbrev pub with_idle : (tag : Option (List ℕ)) → SessionState → SessionState
with_idle tag state = record { selected = state.selected; enabled = state.enabled; idle = tag }

-- a session that stays open, after what a step asks of it
abbrev pub edited : SessionEffect → SessionState → SessionState
edited (session.Note more told) state = with_enabled more (session_after told state)
edited (session.Select more selection) state = with_selection selection (with_enabled more state)
edited (session.Idle tag told) state = with_idle tag (session_after told state)
edited _ state = state

abbrev pub edited_if_open : (number : ℕ) → SessionEffect → Own → Option SessionState → Own
edited_if_open number effect own None = own
edited_if_open number effect own (Some state) = map.insert own number (edited effect state)

-- with one session edited, if it is open
abbrev pub with_edit : (number : ℕ) → SessionEffect → Own → Own
with_edit number effect own = edited_if_open number effect own (map.get own number)

-- after what a step asks of the session with the number
abbrev pub own_with : (number : ℕ) → SessionEffect → Own → Own
own_with number session.Keep own = own
own_with number session.Open own = map.insert own number new_session
own_with number (session.Note more told) own = with_edit number (session.Note more told) own
own_with number (session.Select more selection) own = with_edit number (session.Select more selection) own
own_with number (session.Idle tag told) own = with_edit number (session.Idle tag told) own
own_with number session.End own = map.remove own number

abbrev pub own_code : Coded Own
own_code = map.code coded_ℕ session_code

-- no number stands twice
abbrev pub are_apart : {X : Type 0} → List (ℕ × X) → Bool
are_apart [] = true
are_apart (e ∷ es) = not (list_any (λ f. f.0 == e.0) es) && are_apart es

-- Each number stands once. There are no more than may be open, and there is room for as many.
pub record IsKept {Z : Type 0} (entries : Vec (ℕ × HeldSession) Z) : Type 0 where
  pub apart : are_apart entries.items ≡ true
  pub few : length entries.items ≤ max_sessions
  pub room : max_sessions ≤ vec_capacity entries
