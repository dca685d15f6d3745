-- What a change that is current may write, and what it makes of the world.
use Rattle.std.proofs.Common.{◌≡◌, List, [], ◌∷◌, drop, length, refl, sym, ap, ◌∙◌, arith}
use Rattle.imap_world.specs.declared.change.Write.{Write}
use Rattle.imap_world.specs.Effects.{after_result, after_writes}
use Rattle.imap_world.specs.Ready.{AreReady, IsCurrent, IsMadeByEffects, IsReady}
use Rattle.imap_world.specs.Stored.{Stored, world_of}
use Rattle.imap_world.specs.World.{World}
use Rattle.imap_world.proofs.Fitting.{apart_may}
use Rattle.imap_world.proofs.Lone.{apart_lone}

pub current_is_ready : (change : List Write) (stored : Stored) → IsReady change stored → AreReady change stored
current_is_ready change stored ready =
    let (effects, apart, writes) = ready.current in
    record {
      room = ready.room;
      lone = apart_lone (world_of stored) effects change apart writes;
      may = apart_may (world_of stored) effects change apart writes;
    }

pub made_by_effects : (change : List Write) (old new : World) → IsCurrent change old → new ≡ after_writes change old → IsMadeByEffects old new
made_by_effects change old new (effects, apart, writes) is = (effects, apart, is ∙ sym (ap (λ r. after_result r old) writes))

-- a list from which nothing can be taken is empty
pub nothing_left : {A : Type 0} (xs : List A) → xs ≡ drop 1 xs → xs ≡ []
nothing_left [] same = refl
nothing_left (x ∷ xs) same = absurd (omega (arith, ap length same))
