-- What a step writes.
use Rattle.std.proofs.Common.{◌≡◌, ◌∙◌, ◌↔◌, ap, List, [], Ok}
use Rattle.imap_core.specs.declared.step.Step.{Step}
use Rattle.imap_core.specs.Machine.{State, outcome}
use Rattle.imap_core.proofs.SessionsInStep.{one_is_apart}
use Rattle.imap_answer.specs.Alike.{effects_of}
use Rattle.imap_world.specs.declared.change.Write.{Write}
use Rattle.imap_world.specs.Effects.{writes_of}
use Rattle.imap_world.specs.Ready.{IsCurrent}
use Rattle.imap_saving.specs.Performing.{IsUnwritten}

module _ (state : State) (step : Step) (change : List Write) (found : writes_of (effects_of (outcome state step).effect) state.world ≡ Ok change) where
  pub current : IsCurrent change state.world
  current = (effects_of (outcome state step).effect, one_is_apart (outcome state step).effect, found)

  pub unwritten : IsUnwritten state step ↔ (change ≡ [])
  unwritten = (λ is. cc, λ is. found ∙ ap (λ c. Ok c) is)
