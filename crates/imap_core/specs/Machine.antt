-- The machine: the mailboxes and all open sessions, and what one step makes of them.
use Rattle.std.specs.Prelude.{◌≡◌, ℕ, ◌<◌, List, [], ◌∷◌, length, take, Option, Some, None, refl}
use Rattle.std.specs.Coded.{Coded, coded×, code_by}
use Rattle.std.specs.FinMap as map
use Rattle.imap_print.specs.declared.response.Response.{Response}
use Rattle.imap_view.specs.View.{View, site_code, view_of}
use Rattle.imap_answer.specs.Alike.{effects_of}
use Rattle.imap_world.specs.declared.site.Site.{Site}
use Rattle.imap_world.specs.Effects.{after_all}
use Rattle.imap_world.specs.Stored.{Stored, stored_code}
use Rattle.imap_world.specs.World.{World, world_code}
use Rattle.imap_sessions.specs.declared.session_id.SessionId.{SessionId}
use Rattle.imap_core.specs.declared.step.Step.{Step}
use Rattle.imap_sessions.specs.Accounts.{Accounts, HeldAccounts, accounts_after, accounts_code, held_accounts_code}
use Rattle.imap_core.specs.Outcome.{Outcome, silence}
use Rattle.imap_core.specs.Reply.{reply}
use Rattle.imap_sessions.specs.Sessions.{Own}

pub record State : Type 0 where
  pub site : Site
  pub world : World
  pub accounts : Accounts

-- a state, and its world and its accounts with the room that they have for more
pub record Machine : Type 0 where
  pub state : State
  pub stored : Stored
  pub held : HeldAccounts

abbrev pub state_code : Coded State
state_code =
    code_by (Site × (World × Accounts)) (coded× site_code (coded× world_code accounts_code))
    (λ s. (s.site, (s.world, s.accounts)))
    (λ p. record { site = p.0; world = p.1.0; accounts = p.1.1 })
    (λ _. refl)

abbrev pub machine_code : Coded Machine
machine_code =
    code_by (State × (Stored × HeldAccounts))
    (coded× state_code (coded× stored_code held_accounts_code))
    (λ m. (m.state, (m.stored, m.held)))
    (λ p. record { state = p.0; stored = p.1.0; held = p.1.1 })
    (λ _. refl)

-- what a user may see, and the user's own sessions, if the user is known
abbrev pub view_in : State → List ℕ → View
view_in state user = view_of state.site user state.world

abbrev pub own_in : State → List ℕ → Option Own
own_in state user = map.get state.accounts user

-- a user whom nobody knows is answered nothing
abbrev pub outcome_for : View → Option Own → Step → Outcome
outcome_for view None step = silence
outcome_for view (Some own) step = reply view own step

abbrev pub outcome : State → Step → Outcome
outcome state step = outcome_for (view_in state step.who.user) (own_in state step.who.user) step

abbrev pub answer : State → Step → List Response
answer state step = (outcome state step).replies

-- ---- after a step

abbrev pub next : State → Step → State
next state step = record {
  site = state.site;
  world = after_all (effects_of (outcome state step).effect) state.world;
  accounts = accounts_after state.accounts step.who (outcome state step).session;
}

-- ---- runs

abbrev pub answers : State → List Step → List (List Response)
answers state [] = []
answers state (step ∷ steps) = answer state step ∷ answers (next state step) steps

abbrev pub after_steps : State → List Step → State
after_steps state [] = state
after_steps state (step ∷ steps) = after_steps (next state step) steps

-- a step of the session is answered by these replies, and leads from the one state to the other
abbrev pub IsOneStep : SessionId → State → List Response → State → Type 0
IsOneStep who old replies new =
    (step : Step) × (step.who ≡ who) × (replies ≡ answer old step) × (new ≡ next old step)

-- some of the first steps were made, and the others not
abbrev pub IsPartWay : State → List Step → State → Type 0
IsPartWay state steps reached =
    (made : ℕ) × (made < length steps) × (reached ≡ after_steps state (take made steps))
