-- Sessions in step with their mailboxes (RFC 7162, section 3.1.2.1, HIGHESTMODSEQ): what the machine's type keeps.
use Rattle.std.specs.Prelude.{◌≡◌, ℕ, List, Some}
use Rattle.imap_session.specs.State.{SessionState}
use Rattle.imap_world.specs.Kept.{AreKept, IsSound}
use Rattle.imap_world.specs.World.{World}
use Rattle.imap_sessions.specs.Accounts.{Accounts, session_at}
use Rattle.imap_sessions.specs.InStep.{IsInStep}
use Rattle.imap_core.specs.declared.step.Step.{Step}
use Rattle.imap_core.specs.Machine.{State, next}

-- every open session is in step
pub record AreInStep (world : World) (accounts : Accounts) : Type 0 where
  pub at : (user : List ℕ) (number : ℕ) (state : SessionState)
      → session_at accounts user number ≡ Some state → IsInStep world user state.selected

-- What the machine's type keeps: its world is as a world's type keeps it, and its sessions are in step.
pub record IsMachineKept (world : World) (accounts : Accounts) : Type 0 where
  pub sound : IsSound world
  pub messages : AreKept world.mailboxes
  pub sessions : AreInStep world accounts

-- It is kept, whosever step is made.
abbrev pub SessionsStayInStep : Type 0
SessionsStayInStep = (state : State) (step : Step) → IsMachineKept state.world state.accounts
    → IsMachineKept (next state step).world (next state step).accounts
