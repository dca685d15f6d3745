-- A command in two worlds that are alike to its user.
use Rattle.std.specs.Prelude.{◌≡◌, ℕ, List, [], ◌∷◌, Option, Some, None}
use Rattle.imap_view.specs.After.{view_after}
use Rattle.imap_view.specs.View.{View, view_of}
use Rattle.imap_view.specs.Site.{Site}
use Rattle.imap_view.specs.Effect.{Effect}
use Rattle.imap_view.specs.Effects.{after_all}
use Rattle.imap_view.specs.Kept.{AreKept}
use Rattle.imap_view.specs.World.{World}
use Rattle.imap_answer.specs.Answer.{Answer}

abbrev pub effects_of : Option Effect → List Effect
effects_of None = []
effects_of (Some effect) = effect ∷ []

-- the view of the user who asks for it, once it is made
abbrev pub view_after_asking : Option Effect → View → View
view_after_asking None view = view
view_after_asking (Some effect) view = view_after effect view

-- A command with this answer is answered alike in two worlds that are alike to its user, and leaves them
-- alike to that user. What the type of a mailbox keeps holds of the messages of each in both worlds.
abbrev pub AnswersAlike : (View → Answer) → Type 0
AnswersAlike answer = (site : Site) (user : List ℕ) (world other : World)
    → AreKept world.mailboxes → AreKept other.mailboxes
    → view_of site user world ≡ view_of site user other →
    let here = answer (view_of site user world) in
    let there = answer (view_of site user other) in
    (here ≡ there)
    × (view_of site user (after_all (effects_of here.effect) world)
    ≡ view_of site user (after_all (effects_of there.effect) other))
