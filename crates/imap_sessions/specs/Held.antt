-- A session with the room of its known list.
use Rattle.std.specs.Prelude.{ℕ, ◌≤◌, Option, Some, None, refl}
use Rattle.std.specs.Coded.{Coded, coded_ℕ, coded×, code_by}
use Rattle.imap_session.specs.State.{SessionState, session_code}
use Rattle.imap_session.specs.Telling.{Telling, room_for}

-- What the session may be told without memory, while it has a mailbox selected: nothing in no room. One is for a
-- change of its known list, and one for each message that is added
pub record HeldSession : Type 0 where
  pub state : SessionState
  pub room : ℕ

abbrev pub held_code : Coded HeldSession
held_code =
    code_by (SessionState × ℕ) (coded× session_code coded_ℕ)
    (λ h. (h.state, h.room)) (λ p. record { state = p.0; room = p.1 }) (λ _. refl)

-- none if nothing is told
abbrev pub room_for_any : Option Telling → ℕ
room_for_any None = 0
room_for_any (Some told) = room_for told

-- 0 if the session isn't open
abbrev pub room_in : Option HeldSession → ℕ
room_in None = 0
room_in (Some held) = held.room

-- if the session is open, there is the room that is needed
abbrev pub HasKnownRoom : (needed : ℕ) → Option HeldSession → Type 0
HasKnownRoom needed None = Unit {0}
HasKnownRoom needed (Some held) = needed ≤ held.room
