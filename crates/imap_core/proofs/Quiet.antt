-- The test of two views, and a poll to which nothing is answered.
use Rattle.std.proofs.Common.{◌≡◌, ℕ, Bool, true, false, List, [], ◌∷◌, Option, Some, None, refl, sym, ap, subst, true≢false}
use Rattle.imap_print.specs.declared.response.Response.{Response}
use Rattle.std.specs.FinMap as map
use Rattle.imap_core.specs.declared.step.Act.{Act}
use Rattle.imap_core.specs.declared.step.Act.TheVariants as act
use Rattle.imap_core.specs.declared.step.Step.{Step}
use Rattle.imap_core.specs.Machine.{outcome_for, answer, view_in, own_in}
use Rattle.imap_sessions.specs.Accounts.{accounts_after}
use Rattle.imap_core.specs.Laws.{QuietPollsChangeNothing}
use Rattle.imap_sessions.specs.Notices.{mailbox_left, notice_options, noting}
use Rattle.imap_core.specs.Outcome.{Outcome}
use Rattle.imap_core.specs.Reply.{reply_by_idle, reply_by_session, unless_lost}
use Rattle.imap_sessions.specs.Sessions.{Own}
use Rattle.imap_core.specs.Trace.{is_quiet, same_view, EqualViewsAreSame}
use Rattle.imap_session.specs.Lost.{is_lost}
use Rattle.imap_session.specs.State.{SessionState}
use Rattle.imap_view.specs.View.{View, view_code}
use Rattle.imap_core.proofs.Fitting.{IsUnchanged}
use Rattle.imap_core.proofs.Silent.{silent_is_untold}
use Rattle.imap_core.proofs.Sameness.{equal_from_same, same_from_itself}
use Rattle.imap_answer.specs.Alike.{effects_of}
use Rattle.imap_answer.specs.Answer.{nothing_enabled}
use Rattle.imap_world.specs.Effects.{after_all}

equal_views : (v w : View) → same_view v w ≡ true → v ≡ w
unfolding same_view
equal_views v w e = equal_from_same view_code v w e

pub same_views : EqualViewsAreSame
unfolding same_view
same_views v w = (equal_views v w, λ same. subst (λ (other : View). same_view v other ≡ true) same (same_from_itself view_code v))

-- ---- a poll to which nothing is answered changes nothing

pub quiet_act : (what : Act) (replies : List Response) → is_quiet what replies ≡ true → (what ≡ act.Poll) × (replies ≡ [])
quiet_act act.Open replies e = absurd (true≢false (sym e))
quiet_act (act.Do request) replies e = absurd (true≢false (sym e))
quiet_act act.Poll [] e = (refl, refl)
quiet_act act.Poll (reply ∷ replies) e = absurd (true≢false (sym e))
quiet_act act.Done replies e = absurd (true≢false (sym e))
quiet_act act.Leave replies e = absurd (true≢false (sym e))

-- a poll to which nothing is answered asks for nothing and leaves the session
polled : (view : View) (own : Option Own) (step : Step) (what : Act) → what ≡ act.Poll → (outcome_for view own (record step { act = what })).replies ≡ [] → IsUnchanged (outcome_for view own (record step { act = what }))
polled view None step what e quiet = record { session = refl; effect = refl }
polled view (Some own) step act.Open e quiet = absurd (cc)
polled view (Some own) step (act.Do request) e quiet = absurd (cc)
polled view (Some own) step act.Poll e quiet = by (map.get own step.who.number) quiet
  where
    by_idle : (active : SessionState) (idle : Option (List ℕ)) → (reply_by_idle view active step.at act.Poll idle).replies ≡ [] → IsUnchanged (reply_by_idle view active step.at act.Poll idle)
    by_idle active None quiet = record { session = refl; effect = refl }
    by_idle active (Some tag) quiet = record {
      session = ap (noting nothing_enabled) (silent_is_untold (notice_options true active.enabled) active.selected (mailbox_left view active) quiet);
      effect = refl;
    }

    unless : (is : Bool) (outcome : Outcome) → (outcome.replies ≡ [] → IsUnchanged outcome) → (unless_lost is outcome).replies ≡ [] → IsUnchanged (unless_lost is outcome)
    unless true outcome h quiet = absurd (cc quiet)
    unless false outcome h quiet = h quiet

    by : (active : Option SessionState) → (reply_by_session view own (record step { act = act.Poll }) active).replies ≡ [] → IsUnchanged (reply_by_session view own (record step { act = act.Poll }) active)
    by None quiet = record { session = refl; effect = refl }
    by (Some active) quiet = unless (is_lost view active) (reply_by_idle view active step.at act.Poll active.idle) (by_idle active active.idle) quiet
polled view (Some own) step act.Done e quiet = absurd (cc)
polled view (Some own) step act.Leave e quiet = absurd (cc)

pub quiet_unchanged : QuietPollsChangeNothing
quiet_unchanged state step quiet =
    let is = quiet_act step.act (answer state step) quiet in
    let stays = polled (view_in state step.who.user) (own_in state step.who.user) step step.act is.0 is.1 in
    λ i. record {
      site = state.site;
      world = after_all (effects_of (stays.effect i)) state.world;
      accounts = accounts_after state.accounts step.who (stays.session i);
    }
