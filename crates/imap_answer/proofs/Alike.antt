-- The view after a command, and worlds that are alike.
use Rattle.std.proofs.Common.{◌≡◌, ℕ, List, Option, Some, None, refl, sym, ap, ◌∙◌}
use Rattle.imap_view.proofs.Asked.{own_effects}
use Rattle.imap_view.specs.View.{View, view_of}
use Rattle.imap_view.specs.Site.{Site}
use Rattle.imap_view.specs.Effect.{Effect}
use Rattle.imap_view.specs.Effects.{after_all}
use Rattle.imap_view.specs.Kept.{AreKept}
use Rattle.imap_view.specs.World.{World}
use Rattle.imap_answer.specs.Alike.{AnswersAlike, effects_of, view_after_asking}
use Rattle.imap_answer.specs.Answer.{Answer}
use Rattle.imap_answer.specs.Fit.{IsFit, IsViewed, MayBeAsked}

pub after_asking : (site : Site) (user : List ℕ) (world : World) (asked : Option Effect) → AreKept world.mailboxes → MayBeAsked (view_of site user world) asked
    → view_of site user (after_all (effects_of asked) world) ≡ view_after_asking asked (view_of site user world)
after_asking site user world None kept may = refl
after_asking site user world (Some effect) kept may = own_effects site user world effect kept may

pub viewed : (site : Site) (user : List ℕ) (world : World) → AreKept world.mailboxes → IsViewed (view_of site user world)
unfolding view_of
viewed site user world kept = record { world = world; kept = kept; is = refl }

-- answers that are fit
pub answers_alike : (answer : View → Answer) → ((view : View) → IsFit view (answer view)) → AnswersAlike answer
answers_alike answer fit site user world other kept kept_other same =
    let here = view_of site user world in
    let there = view_of site user other in (
      ap answer same,
      after_asking site user world (answer here).effect kept ((fit here).asks (viewed site user world kept))
          ∙ ap (λ view. view_after_asking (answer view).effect view) same
          ∙ sym (after_asking site user other (answer there).effect kept_other ((fit there).asks (viewed site user other kept_other))),
    )
