-- What the code has prepared, against what is to be answered.
use Rattle.std.specs.Prelude.{◌≡◌, List, Ok}
use Rattle.std.specs.Prelude.{map as map_list}
use Rattle.std.specs.FinMap as map
use Rattle.std.specs.List.{AllByRecursion}
use Rattle.std.specs.declared.vec.Vec.{Vec}
use Rattle.imap_answer.specs.Alike.{effects_of}
use Rattle.imap_print.specs.Lines.{IsPrintable}
use Rattle.imap_print.specs.declared.response.Response.{Response}
use Rattle.imap_world.specs.declared.change.Write.{Write}
use Rattle.imap_world.specs.Effects.{after_writes, writes_of}
use Rattle.imap_world.specs.Ready as world
use Rattle.imap_sessions.specs.declared.session_id.SessionId.{SessionId}
use Rattle.imap_sessions.specs.declared.sessions.SessionEffect.{SessionEffect}
use Rattle.imap_core.specs.declared.machine.Prepared.{Prepared}
use Rattle.imap_core.specs.declared.step.Step.{Step}
use Rattle.imap_sessions.specs.Accounts.{accounts_after, held_in, session_at}
use Rattle.imap_sessions.specs.Held.{HasKnownRoom}
use Rattle.imap_sessions.specs.Planned.{MayOpen, MayTell, room_needed}
use Rattle.imap_core.specs.InStep.{IsMachineKept}
use Rattle.imap_core.specs.Machine.{State, Machine, answer, outcome}

-- A client reads each reply as one line.
abbrev pub ArePrintable : {Z : Type 0} → Vec Response Z → Type 0
ArePrintable replies = AllByRecursion IsPrintable replies.items

-- the replies to each of several steps
abbrev pub replies_in : {Y Z : Type 0} → Vec (Vec Response Y) Z → List (List Response)
replies_in said = map_list (λ replies. replies.items) said.items

abbrev pub replies_of : Prepared → List Response
replies_of prepared = prepared.replies.items

abbrev pub change_of : Prepared → List Write
change_of prepared = prepared.change

-- the session whose step it is, and what becomes of it
abbrev pub who_of : Prepared → SessionId
who_of prepared = prepared.who

abbrev pub session_of : Prepared → SessionEffect
session_of prepared = prepared.session

-- the state once it is made
abbrev pub state_after : Prepared → State → State
state_after prepared state = record {
  site = state.site;
  world = after_writes (change_of prepared) state.world;
  accounts = accounts_after state.accounts prepared.who prepared.session;
}

-- The step finds it in the state: replies, session and change are those of its definition.
pub record IsFoundBy (step : Step) (prepared : Prepared) (state : State) : Type 0 where
  pub who : who_of prepared ≡ step.who
  pub replies : replies_of prepared ≡ answer state step
  pub session : session_of prepared ≡ (outcome state step).session
  pub change : writes_of (effects_of (outcome state step).effect) state.world ≡ Ok (change_of prepared)

-- A step finds it in the state as it is. What was found before another step was made need not be.
abbrev pub IsCurrent : Prepared → State → Type 0
IsCurrent prepared state = (step : Step) × IsFoundBy step prepared state

-- It is current, needs no memory in this machine, and leaves its sessions in step.
pub record IsReady (prepared : Prepared) (machine : Machine) : Type 0 where
  pub current : IsCurrent prepared machine.state
  pub sessions :
      MayOpen (map.get machine.state.accounts prepared.who.user) prepared.who.number prepared.session
  pub told :
      MayTell (session_at machine.state.accounts prepared.who.user prepared.who.number) prepared.session
  pub known : HasKnownRoom (room_needed prepared.session) (held_in machine.held prepared.who)
  pub world : world.IsReady (change_of prepared) machine.stored
  pub step : IsMachineKept (after_writes (change_of prepared) machine.state.world)
      (accounts_after machine.state.accounts prepared.who prepared.session)
