-- What a crash leaves of an opening.
use Rattle.std.proofs.Common.{◌≡◌, ◌∙◌, ◌⊎◌, inl, inr, sym, ap, subst, List, []}
use Rattle.imap_saving.specs.Machine.{State}
use Rattle.imap_keeper.specs.Keeping.{LeavesOnly, LeavesOr}
use Rattle.imap_world.specs.declared.change.Write.{Write}
use Rattle.imap_world.specs.Effects.{after_writes}
use Rattle.imap_world.specs.World.{World}

module _ {Image : Type 0} (Stands : Image → World → Type 0) (old mid : Image → Type 0) (read : LeavesOnly mid old) where
  left_saved : (new : Image → Type 0) (written started : World) → LeavesOr mid new (λ image. Stands image written) → written ≡ started
      → LeavesOr old new (λ image. Stands image started)
  left_saved new written started saved is image left = by (saved image left)
    where
      by : mid image ⊎ Stands image written → old image ⊎ Stands image started
      by (inl h) = inl (read image h)
      by (inr h) = inr (subst (Stands image) is h)

  -- the machine starts in the state that `at` makes of the mailboxes that were kept, whose mailboxes the change writes
  pub left_started : (at : World → State) (new : Image → Type 0) (change : List Write) (kept world : World) (made : State) → LeavesOr mid new (λ image. Stands image (after_writes change kept))
      → made.world ≡ after_writes change kept → made ≡ at kept → kept ≡ world → LeavesOr old new (λ image. Stands image (at world).world)
  left_started at new change kept world made saved written start same =
      left_saved new (after_writes change kept) (at world).world saved (sym written ∙ ap (λ (s : State). s.world) (start ∙ ap at same))

-- what was written is no more than what was there, if it was nothing
pub unwritten_same : (change : List Write) (world started : World) → started ≡ after_writes change world → change ≡ [] → started ≡ world
unwritten_same change world started is none = is ∙ ap (λ writes. after_writes writes world) none

pub left_alone : {Image : Type 0} (Stands : Image → World → Type 0) (new : Image → Type 0) (change : List Write) (world kept started : World)
    → kept ≡ world → started ≡ after_writes change kept → (started ≡ world → ⊥)
    → ((change ≡ [] → ⊥) → LeavesOnly new (λ image. Stands image (after_writes change kept))) → LeavesOnly new (λ image. Stands image started)
left_alone Stands new change world kept started same is apart alone image left =
    subst (Stands image) (sym is) (alone (λ none. apart (unwritten_same change kept started is none ∙ same)) image left)
