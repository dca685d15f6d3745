-- The effects of a run, one list after another.
use Rattle.std.proofs.Common.{◌≡◌, List, [], ◌∷◌, refl, subst}
use Rattle.std.specs.List.{AllByRecursion}
use Rattle.imap_answer.specs.Alike.{effects_of}
use Rattle.imap_world.specs.declared.effect.Effect.{Effect}
use Rattle.imap_world.specs.Effects as world
use Rattle.imap_world.specs.Laws.{KeepsValidities, MessagesGrown}
use Rattle.imap_world.specs.Ready.{AreApart}
use Rattle.imap_world.proofs.Growing.{messages_grow}
use Rattle.imap_world.proofs.Histories.{used_once}
use Rattle.imap_core.specs.declared.step.Step.{Step}
use Rattle.imap_core.specs.Machine.{State, after_steps, next, outcome}
use Rattle.imap_sessions.proofs.InStep.{one_is_apart}
use Rattle.imap_core.specs.Histories.{RunsGrowMessages, RunsKeepValidities}

abbrev effects_in : State → List Step → List (List Effect)
effects_in state [] = []
effects_in state (step ∷ steps) = effects_of (outcome state step).effect ∷ effects_in (next state step) steps

all_apart : (state : State) (steps : List Step) → AllByRecursion AreApart (effects_in state steps)
all_apart state [] = tt
all_apart state (step ∷ steps) = (one_is_apart (outcome state step).effect, all_apart (next state step) steps)

-- the mailboxes after a run are those after its effects
world_after : (state : State) (steps : List Step) → world.after_steps (effects_in state steps) state.world ≡ (after_steps state steps).world
world_after state [] = refl
world_after state (step ∷ steps) = world_after (next state step) steps

pub runs_keep_validities : RunsKeepValidities
runs_keep_validities state steps =
    subst (KeepsValidities state.world) (world_after state steps) (used_once state.world (effects_in state steps) (all_apart state steps))

pub runs_grow_messages : RunsGrowMessages
runs_grow_messages state steps kept =
    subst (MessagesGrown state.world) (world_after state steps) (messages_grow state.world (effects_in state steps) (all_apart state steps) kept)
