-- A change that a user asked for.
use Rattle.std.specs.Prelude.{◌≡◌, ℕ, List, Option, Ok}
use Rattle.imap_answer.specs.Alike.{effects_of}
use Rattle.imap_answer.specs.Fit.{MayBeAsked}
use Rattle.imap_view.specs.View.{view_of}
use Rattle.imap_world.specs.declared.change.Write.{Write}
use Rattle.imap_world.specs.declared.effect.Effect.{Effect}
use Rattle.imap_world.specs.declared.site.Site.{Site}
use Rattle.imap_world.specs.Effects.{writes_of}
use Rattle.imap_world.specs.World.{World}

-- It is what is written for an effect that the user may ask for, if for any, by the world as it is.
pub record IsAskedBy (site : Site) (user : List ℕ) (world : World) (change : List Write) : Type 0 where
  pub effect : Option Effect
  pub may : MayBeAsked (view_of site user world) effect
  pub writes : writes_of (effects_of effect) world ≡ Ok change
