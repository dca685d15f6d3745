-- What a keeper promises of the world that it has.
use Rattle.std.specs.Prelude.{◌⊎◌, ℕ, ◌+◌, ◌-◌, ◌^◌, min, List, Result, Ok, Err}
use Rattle.imap_keeper.specs.declared.error.KeepError.{KeepError}
use Rattle.imap_keeper.specs.declared.error.KeepError.TheVariants.{Refused, Memory, Damaged}
use Rattle.imap_world.specs.declared.change.Write.{Write}
use Rattle.imap_world.specs.Effects.{after_writes}
use Rattle.imap_world.specs.Ready.{IsCurrent}
use Rattle.imap_world.specs.World.{World}

-- ---- the count of failures

-- no more are counted
abbrev pub max_failures : ℕ
max_failures = 2 ^ 64 - 1

-- one more if the store refused
abbrev pub count_after : KeepError → ℕ → ℕ
count_after Refused count = min (count + 1) max_failures
count_after Memory count = count
count_after Damaged count = count

-- the count after a call
abbrev pub failures_after : {A : Type 0} → Result A KeepError → ℕ → ℕ
failures_after (Ok value) count = count
failures_after (Err error) count = count_after error count

-- ---- the world that is kept

-- a world that is kept, by which the change was found
abbrev pub HasBase : (Content : World → Type 0) → (change : List Write) → Type 0
HasBase Content change = (world : World) × Content world × IsCurrent change world

-- P holds of the world that the change makes of the one that is kept
abbrev pub OfChanged : (Content : World → Type 0) → (change : List Write) → (P : World → Type 0) → Type 0
OfChanged Content change P =
    (world : World) → Content world → IsCurrent change world → P (after_writes change world)

-- ---- what a crash leaves

module _ {Image : Type 0} where
  -- what a crash leaves afterwards it left before, or Made holds of it
  abbrev pub LeavesOr : (before after Made : Image → Type 0) → Type 0
  LeavesOr before after Made = (image : Image) → after image → before image ⊎ Made image

  -- what a crash leaves is of one kind
  abbrev pub LeavesOnly : (after Made : Image → Type 0) → Type 0
  LeavesOnly after Made = (image : Image) → after image → Made image
