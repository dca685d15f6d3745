-- The selected mailbox of a session, as a change that was found for an answer leaves it.
use Rattle.std.proofs.Common.{◌≡◌, ℕ, ◌<◌, Bool, true, false, cond, not, eqb, List, [], ◌∷◌, Option, Some, None, IfSome, refl, sym, ap, subst, ◌∙◌, arith}
use Rattle.std.specs.Prelude.{option_map}
use Rattle.std.specs.FinMap as map
use Rattle.std.proofs.lemmas.Bool.Decides.{nat_tests}
use Rattle.imap_answer.proofs.Alike.{after_asking}
use Rattle.imap_answer.specs.Alike.{effects_of, view_after_asking}
use Rattle.imap_mailbox.proofs.BroughtUp.{shown_is_ordered}
use Rattle.imap_mailbox.specs.Shown.{content_of}
use Rattle.imap_session.specs.Held.{uid_limit}
use Rattle.imap_session.specs.Lost.{has_other_validity, is_lost_selection}
use Rattle.imap_session.specs.State.{Selection, SessionState}
use Rattle.imap_session.specs.Told.{IsInStepIfSelected}
use Rattle.imap_upcoming.proofs.Reading.{read_of, readable_is_there}
use Rattle.imap_upcoming.specs.declared.upcoming.Upcoming.{Upcoming}
use Rattle.imap_upcoming.specs.Readable.{messages_for, readable}
use Rattle.imap_view.specs.declared.readable.Readable.{Readable}
use Rattle.imap_view.specs.Readable.{readable_in}
use Rattle.imap_view.specs.View.{View, view_of}
use Rattle.imap_world.proofs.Histories.{all_stay_kept}
use Rattle.imap_world.specs.declared.change.Write.{Write}
use Rattle.imap_world.specs.declared.effect.Effect.{Effect}
use Rattle.imap_world.specs.declared.site.Site.{Site}
use Rattle.imap_world.specs.Effects.{after_all, after_result, after_writes}
use Rattle.imap_world.specs.Kept.{AreKept}
use Rattle.imap_world.specs.World.{World}
use Rattle.imap_sessions.specs.InStep.{IsInStep}
use Rattle.imap_sessions.specs.Notices.{mailbox_left, selected_mailbox}
use Rattle.imap_sessions.specs.Planned.{IsFoundFor}
use Rattle.imap_sessions.proofs.InStep.{grown_by, stays}
use Rattle.imap_sessions.proofs.InStep.{one_is_apart}

-- a session that has not lost its mailbox may read it
read_unless_lost : (view : View) (s : Selection) (found : Option Readable) → has_other_validity s.validity found ≡ false → (r : Readable) × (found ≡ Some r)
read_unless_lost view s None unlost = absurd (cc unlost)
read_unless_lost view s (Some r) unlost = (r, refl)

-- what is left is what is read, unless it is another one
pub left_is : (view : View) (own : SessionState) (s : Selection) (m : Option Upcoming) → own.selected ≡ Some s → option_map readable m ≡ readable_in view s.name
    → option_map readable (cond (has_other_validity s.validity (option_map readable m)) None m) ≡ mailbox_left view own
left_is view own s m selected is =
    by (has_other_validity s.validity (option_map readable m))
    ∙ ap (λ o. cond (has_other_validity s.validity o) None o) is
    ∙ sym (ap (λ o. cond (is_lost_selection view o) None (selected_mailbox view o)) selected)
  where
    by : (b : Bool) → option_map readable (cond b None m) ≡ cond b None (option_map readable m)
    by true = refl
    by false = refl

pub none_left : (view : View) (own : SessionState) → own.selected ≡ None → None ≡ mailbox_left view own
none_left view own selected = sym (ap (λ o. cond (is_lost_selection view o) None (selected_mailbox view o)) selected)

module _ (site : Site) (user : List ℕ) (world : World) (change : List Write) (own : SessionState) (found : IsFoundFor site user world change own) where
  abbrev after : World
  after = after_writes change world

  abbrev effect : Option Effect
  effect = found.asked.effect

  pub there : (s : Selection) → own.selected ≡ Some s → map.contains_key world.mailboxes s.name ≡ true
  there s selected =
      let view = view_of site user world in
      let read = read_unless_lost view s (readable_in view s.name) (sym (ap (is_lost_selection view) selected) ∙ found.unlost) in
      readable_is_there site user world s.name read.0 read.1

  made : after_all (effects_of effect) world ≡ after
  made = ap (λ writes. after_result writes world) found.asked.writes

  pub viewed_after : view_of site user after ≡ view_after_asking effect (view_of site user world)
  viewed_after = ap (view_of site user) (sym made) ∙ after_asking site user world effect found.kept found.asked.may

  kept_after : AreKept after.mailboxes
  kept_after = subst (λ (w : World). AreKept w.mailboxes) made (all_stay_kept world (effects_of effect ∷ []) (one_is_apart effect, tt) found.kept)

  step_after : IsInStep after user own.selected
  step_after = subst (λ w. IsInStep w user own.selected) made (stays world (after_all (effects_of effect) world) (grown_by world found.kept effect) user own.selected found.step)

  -- the session is in step with it
  in_step : (s : Selection) (r : Readable) → own.selected ≡ Some s → readable_in (view_of site user after) s.name ≡ Some r → r.validity ≡ s.validity → r.next_uid < uid_limit
      → IsInStepIfSelected r.highest r.rows own.selected
  in_step s r selected is same few =
      let read = read_of site user after s.name r is in
      let content = content_of user read.mailbox.messages in
      let shows : r ≡ messages_for user read.mailbox.validity read.mailbox.messages = read.is in
      let step = subst (IsInStep after user) selected step_after in
      subst (IsInStepIfSelected r.highest r.rows) (sym selected) (
        content,
        record {
          shows = ap (λ (r : Readable). r.rows) (sym shows);
          ends = ap (λ (r : Readable). r.highest) (sym shows);
          ordered = shown_is_ordered read.mailbox.messages user (kept_after.at s.name read.mailbox read.there);
          brought = step.brought read.mailbox read.there (sym (ap (λ (r : Readable). r.validity) shows) ∙ same);
          few = subst (λ n. n < uid_limit) (ap (λ (r : Readable). r.next_uid) shows) few;
        },
      )

  pub left_in_step : (s : Selection) (m : Option Upcoming) → own.selected ≡ Some s → option_map readable m ≡ readable_in (view_of site user after) s.name → IfSome m (λ u. u.next_uid < uid_limit)
      → IfSome (cond (has_other_validity s.validity (option_map readable m)) None m) (λ u. IsInStepIfSelected u.highest u.messages own.selected)
  left_in_step s None selected is few = tt
  left_in_step s (Some u) selected is few = by (eqb u.validity s.validity) refl
    where
      by : (b : Bool) → eqb u.validity s.validity ≡ b → IfSome (cond (not b) None (Some u)) (λ u. IsInStepIfSelected u.highest u.messages own.selected)
      by true same = in_step s (readable u) selected (sym is) (grind (arith, nat_tests, same)) few
      by false other = tt
