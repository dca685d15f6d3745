-- What saving and committing leave.
use Rattle.std.specs.Prelude.{◌≡◌, ◌⊎◌, ℕ, ◌<◌, List, [], Ok}
use Rattle.imap_answer.specs.Alike.{effects_of}
use Rattle.imap_core.specs.declared.step.Step.{Step}
use Rattle.imap_core.specs.Machine.{State, answer, next, outcome}
use Rattle.imap_keeper.specs.Keeping.{max_failures}
use Rattle.imap_print.specs.declared.response.Response.{Response}
use Rattle.imap_world.specs.Effects.{writes_of}
use Rattle.imap_saving.specs.declared.replies.Replies.{Replies}
use Rattle.imap_saving.specs.Refusals.{unavailable}

-- a step asks for nothing to be written
abbrev pub IsUnwritten : State → Step → Type 0
IsUnwritten state step = writes_of (effects_of (outcome state step).effect) state.world ≡ Ok []

-- a count of failures rose, or is at its greatest
abbrev pub HasRisen : (old new : ℕ) → Type 0
HasRisen old new = (old < new) ⊎ (new ≡ max_failures)

-- all three are these
pub record AreReplies (replies : Replies) (meant : List Response) : Type 0 where
  pub entry : replies.entry ≡ meant
  pub receipt : replies.receipt ≡ meant
  pub second : replies.second ≡ meant

-- the step was made, or the store refused its change
abbrev pub Performs : (old : State) → (failed : ℕ) → Step → Replies → (new : State) → (fails : ℕ) → Type 0
Performs old failed step replies new fails =
    (AreReplies replies (answer old step) × (new ≡ next old step))
    ⊎ (AreReplies replies (unavailable step) × (new ≡ old) × HasRisen failed fails)
