-- The users whom the host knows, with their open sessions.
use Rattle.std.specs.Prelude.{List, ℕ, Option, Some, None, option_and_then}
use Rattle.std.specs.Coded.{Coded}
use Rattle.std.specs.FinMap as map
use Rattle.imap_session.specs.State.{SessionState}
use Rattle.imap_user_map.specs.Finite.{keep}
use Rattle.imap_user_map.specs.Rows.{Users, users_code}
use Rattle.imap_sessions.specs.declared.session_id.SessionId.{SessionId}
use Rattle.imap_sessions.specs.declared.sessions.SessionEffect.{SessionEffect}
use Rattle.imap_sessions.specs.declared.sessions.SessionEffect.TheVariants as session
use Rattle.imap_sessions.specs.Held.{HeldSession}
use Rattle.imap_sessions.specs.Sessions.{HeldOwn, Own, held_own_code, own_code, own_of, own_with}

abbrev pub Accounts : Type 0
Accounts = Users Own

abbrev pub accounts_code : Coded Accounts
accounts_code = users_code own_code

-- ---- with the room of each known list

abbrev pub HeldAccounts : Type 0
HeldAccounts = Users HeldOwn

abbrev pub held_accounts_code : Coded HeldAccounts
held_accounts_code = users_code held_own_code

abbrev pub own_at : (user : List ℕ) → HeldOwn → Option Own
own_at user own = Some (own_of own)

-- the accounts, without room
abbrev pub accounts_of : HeldAccounts → Accounts
accounts_of accounts = keep own_at accounts

-- a session with its room, if it is open
abbrev pub held_in : HeldAccounts → SessionId → Option HeldSession
held_in accounts who = option_and_then (λ own. map.get own who.number) (map.get accounts who.user)

-- a session, if it is open
abbrev pub session_at : Accounts → (user : List ℕ) → (number : ℕ) → Option SessionState
session_at accounts user number = option_and_then (λ own. map.get own number) (map.get accounts user)

-- ---- after a step

abbrev pub with_own : Accounts → List ℕ → (Own → Own) → Option Own → Accounts
with_own accounts user f None = accounts
with_own accounts user f (Some own) = map.insert accounts user (f own)

abbrev pub accounts_with : Accounts → SessionId → SessionEffect → Accounts
accounts_with accounts who effect =
    with_own accounts who.user (own_with who.number effect) (map.get accounts who.user)

abbrev pub accounts_after : Accounts → SessionId → SessionEffect → Accounts
accounts_after accounts who session.Keep = accounts
accounts_after accounts who session.Open = accounts_with accounts who session.Open
accounts_after accounts who (session.Note more told) = accounts_with accounts who (session.Note more told)
accounts_after accounts who (session.Select more selection) =
    accounts_with accounts who (session.Select more selection)
accounts_after accounts who (session.Idle tag told) = accounts_with accounts who (session.Idle tag told)
accounts_after accounts who session.End = accounts_with accounts who session.End
