-- What a step leaves in the store.
use Rattle.std.specs.Prelude.{◌≡◌, ◌⊎◌, ℕ, List}
use Rattle.imap_saving.specs.Step.{Step}
use Rattle.imap_saving.specs.Machine.{State, next}
use Rattle.imap_keeper.specs.Keeping.{LeavesOnly, LeavesOr}
use Rattle.imap_print.specs.declared.response.Response.{Response}
use Rattle.imap_world.specs.World.{World}
use Rattle.imap_saving.specs.Performing.{HasRisen, IsUnwritten}
use Rattle.imap_saving.specs.Refusals.{unavailable}

-- The keeper has the mailboxes of the machine after the step, and is as before if the step asks for nothing to be
-- written. What a crash leaves it could leave before, or it is that of the mailboxes as the step makes them.
pub record IsSaved {K Image : Type 0} (Content : K → World → Type 0) (IsHonest : K → Type 0)
    (Leaves : K → Image → Type 0) (Stands : Image → World → Type 0)
    (old : State) (before : K) (step : Step) (new : State) (after : K) : Type 0 where
  pub stored : Content after new.world
  pub unwritten : IsUnwritten old step → after ≡ before
  pub honest : IsHonest after → IsHonest before
  pub crash : IsHonest after
      → LeavesOr (Leaves before) (Leaves after) (λ image. Stands image (next old step).world)

-- If the step asks for something to be written, a crash leaves the mailboxes as the step made them and no others,
-- unless the store refused the change, which the replies say.
abbrev pub IsAlone : {K Image : Type 0} → (failed : K → ℕ) → (IsHonest : K → Type 0)
    → (Leaves : K → Image → Type 0) → (Stands : Image → World → Type 0)
    → (old : State) (before : K) → Step → List Response → (new : State) (after : K) → Type 0
IsAlone failed IsHonest Leaves Stands old before step replies new after =
    IsHonest after → (IsUnwritten old step → ⊥)
    → LeavesOnly (Leaves after) (λ image. Stands image new.world)
    ⊎ ((replies ≡ unavailable step) × HasRisen (failed before) (failed after))

-- What a crash leaves after an opening it could leave before, or it is that of the mailboxes with their INBOXes.
abbrev pub IsOpened : {K Image : Type 0} → (IsHonest : K → Type 0) → (Leaves : K → Image → Type 0)
    → (Stands : Image → World → Type 0) → (before : K) (started : World) (after : K) → Type 0
IsOpened IsHonest Leaves Stands before started after =
    IsHonest after → LeavesOr (Leaves before) (Leaves after) (λ image. Stands image started)

-- If it made an INBOX, a crash leaves the mailboxes with that and no others.
abbrev pub IsOpenedAlone : {K Image : Type 0} → (IsHonest : K → Type 0) → (Leaves : K → Image → Type 0)
    → (Stands : Image → World → Type 0) → (world started : World) (after : K) → Type 0
IsOpenedAlone IsHonest Leaves Stands world started after =
    IsHonest after → (started ≡ world → ⊥) → LeavesOnly (Leaves after) (λ image. Stands image started)
