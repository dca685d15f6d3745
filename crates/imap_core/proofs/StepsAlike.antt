-- A step in two states that are alike to its user, by the laws of the commands.
use Rattle.std.proofs.Common.{◌≡◌, ℕ, Bool, true, false, cond, List, [], ◌∷◌, Option, Some, None, refl, sym, ap, subst, ◌∙◌}
use Rattle.std.specs.Prelude.{nat_le}
use Rattle.std.specs.FinMap as map
use Rattle.imap_answer.specs.Alike.{AnswersAlike, effects_of}
use Rattle.imap_answer.specs.Answer.{Answer, nothing_enabled, preceded_by, refusal}
use Rattle.imap_changes.specs.Expunge.{close_answer}
use Rattle.imap_commands.specs.declared.command.Command.{Command}
use Rattle.imap_commands.specs.declared.command.Command.TheVariants as command
use Rattle.imap_commands.specs.declared.commands.select.SelectParameters.{SelectParameters}
use Rattle.imap_commands.specs.declared.request.Request.{Request}
use Rattle.imap_commands.specs.declared.request.Request.TheVariants as request
use Rattle.imap_print.specs.declared.response.Farewell.TheVariants.{LimitReached}
use Rattle.imap_print.specs.declared.response.Refusal.TheVariants.{Malformed}
use Rattle.imap_print.specs.declared.response.Response.TheVariants as response
use Rattle.imap_messages.specs.Select.{is_malformed, select_with_parameters}
use Rattle.imap_session.specs.Lost.{is_lost}
use Rattle.imap_session.specs.State.{Selection, SessionState}
use Rattle.imap_syntax.specs.Moments.{Moment}
use Rattle.imap_view.proofs.Views.{site_of}
use Rattle.imap_view.specs.View.{View, view_of}
use Rattle.imap_world.specs.declared.effect.Effect.{Effect}
use Rattle.imap_world.specs.declared.site.Site.{Site}
use Rattle.imap_world.specs.Effects.{after_all}
use Rattle.imap_world.specs.Kept.{AreKept}
use Rattle.imap_world.specs.World.{World}
use Rattle.imap_core.specs.Answers.{command_answer}
use Rattle.imap_sessions.proofs.Alike.{alike_stay, both_with}
use Rattle.imap_sessions.proofs.InStep.{grown_by}
use Rattle.imap_sessions.specs.Alike.{AreBoth, AreOwnAlike}
use Rattle.imap_sessions.specs.declared.sessions.SessionEffect.{SessionEffect}
use Rattle.imap_sessions.specs.declared.sessions.SessionEffect.TheVariants as session
use Rattle.imap_core.specs.declared.step.Act.{Act}
use Rattle.imap_core.specs.declared.step.Act.TheVariants as act
use Rattle.imap_core.specs.declared.step.Step.{Step}
use Rattle.imap_core.specs.Laws.{StepsAreAlike}
use Rattle.imap_core.specs.Machine.{State, next, outcome, outcome_for, own_in, view_in}
use Rattle.imap_sessions.specs.Notices.{may_tell_expunges, selected_mailbox}
use Rattle.imap_core.specs.Outcome.{Outcome, answered, said}
use Rattle.imap_core.specs.Reply.{command_outcome, highest_line, if_selected, kept, newly_enables_condstore, opened, outcome_of_answer, outcome_of_selecting, reply_by_idle, reply_by_session}
use Rattle.imap_core.specs.Reply.{reply_when_closed, reply_when_open, request_outcome, select_outcome, unless_lost}
use Rattle.imap_sessions.specs.Sessions.{Own, max_sessions}
use Rattle.imap_core.specs.Trace.{Alike}
use Rattle.imap_core.proofs.SameOutcomes.{outcomes_same}
use Rattle.imap_core.proofs.Steps.{kept_next, own_after_change, own_in-next}

-- what is asked of the mailboxes, by the view, leaves worlds alike that are alike
abbrev AsksAlike : (View → Option Effect) → Type 0
AsksAlike asks = (site : Site) (user : List ℕ) (world other : World)
    → AreKept world.mailboxes → AreKept other.mailboxes → view_of site user world ≡ view_of site user other
    → view_of site user (after_all (effects_of (asks (view_of site user world))) world)
    ≡ view_of site user (after_all (effects_of (asks (view_of site user other))) other)

none_asked : AsksAlike (λ view. None)
none_asked site user world other kept kept_other same = same

-- an answer that depends on no view, and asks for nothing
pub alone : (answer : Answer) → answer.effect ≡ None → AnswersAlike (λ view. answer)
alone answer none site user world other kept kept_other same = (
  refl,
  ap (λ effect. view_of site user (after_all (effects_of effect) world)) none ∙ same
      ∙ sym (ap (λ effect. view_of site user (after_all (effects_of effect) other)) none),
)

by_answer : (answer : View → Answer) → AnswersAlike answer → AsksAlike (λ view. (answer view).effect)
by_answer answer law site user world other kept kept_other same = (law site user world other kept kept_other same).1

same_asks : (asks others : View → Option Effect) → ((view : View) → asks view ≡ others view) → AsksAlike others → AsksAlike asks
same_asks asks others is law site user world other kept kept_other same =
    ap (λ effect. view_of site user (after_all (effects_of effect) world)) (is (view_of site user world))
    ∙ law site user world other kept kept_other same
    ∙ sym (ap (λ effect. view_of site user (after_all (effects_of effect) other)) (is (view_of site user other)))

-- a session that has lost its mailbox asks for nothing
unless_lost_asks : (test : View → Bool) (f : View → Outcome) → AsksAlike (λ view. (f view).effect) → AsksAlike (λ view. (unless_lost (test view) (f view)).effect)
unless_lost_asks test f law site user world other kept kept_other same = by (test (view_of site user world)) (test (view_of site user other)) (ap test same)
  where
    by : (b c : Bool) → b ≡ c → view_of site user (after_all (effects_of (unless_lost b (f (view_of site user world))).effect) world)
        ≡ view_of site user (after_all (effects_of (unless_lost c (f (view_of site user other))).effect) other)
    by true true e = same
    by false false e = law site user world other kept kept_other same
    by true false e = absurd (cc e)
    by false true e = absurd (cc e)

-- what a step asks of one of the sessions
both_changed : (world : World) (user : List ℕ) (number : ℕ) (change : SessionEffect) (own other : Option Own) → AreBoth (AreOwnAlike world user) own other
    → AreBoth (AreOwnAlike world user) (own_after_change own number change) (own_after_change other number change)
both_changed world user number change None None h = tt
both_changed world user number change None (Some other) h = h
both_changed world user number change (Some own) None h = h
both_changed world user number change (Some own) (Some other) h = both_with world user own other h number change

module _ (of_commands : (own : SessionState) (tag : List ℕ) (at : Moment) (what : Command) → AnswersAlike (λ view. command_answer view own tag at what)) (of_select : (own : SessionState) (tag : List ℕ) (read_only : Bool) (mailbox : List ℕ) (parameters : SelectParameters) → AnswersAlike (λ view. (select_with_parameters view own tag read_only mailbox parameters).answer)) (of_close : (own : SessionState) (tag : List ℕ) → AnswersAlike (λ view. close_answer view own tag)) where
  -- notices ask for nothing
  answer_asks : (own : SessionState) (expunges : Bool) (answer : View → Answer) → AnswersAlike answer → AsksAlike (λ view. (outcome_of_answer view own expunges (answer view)).effect)
  answer_asks own expunges answer law = same_asks _ (λ view. (answer view).effect) (λ view. by view (newly_enables_condstore own (answer view))) (by_answer answer law)
    where
      by : (view : View) (b : Bool) → (cond b (preceded_by (highest_line (selected_mailbox view own.selected)) (answer view)) (answer view)).effect ≡ (answer view).effect
      by view true = refl
      by view false = refl

  select_asks : (own : SessionState) (tag : List ℕ) (read_only : Bool) (mailbox : List ℕ) (parameters : SelectParameters) → AsksAlike (λ view. (select_outcome view own tag read_only mailbox parameters).effect)
  select_asks own tag read_only mailbox parameters = by (is_malformed own.enabled parameters)
    where
      by : (b : Bool) → AsksAlike (λ view. (cond b (kept (refusal tag Malformed)) (outcome_of_selecting (select_with_parameters view own tag read_only mailbox parameters))).effect)
      by true = none_asked
      by false = by_answer (λ view. (select_with_parameters view own tag read_only mailbox parameters).answer) (of_select own tag read_only mailbox parameters)

  close_asks : (own : SessionState) (tag : List ℕ) (selected : Option Selection) → AsksAlike (λ view. (if_selected selected tag (answered (close_answer view own tag) (session.Select nothing_enabled None))).effect)
  close_asks own tag None = none_asked
  close_asks own tag (Some s) = by_answer (λ view. close_answer view own tag) (of_close own tag)

  unselect_asks : (tag : List ℕ) (outcome : Outcome) (selected : Option Selection) → outcome.effect ≡ None → AsksAlike (λ view. (if_selected selected tag outcome).effect)
  unselect_asks tag outcome None none = none_asked
  unselect_asks tag outcome (Some s) none = same_asks (λ view. outcome.effect) (λ view. None) (λ view. none) none_asked

  command_asks : (own : SessionState) (tag : List ℕ) (at : Moment) (what : Command) → AsksAlike (λ view. (command_outcome view own tag at what).effect)
  command_asks own tag at command.Logout = none_asked
  command_asks own tag at (command.Select mailbox parameters) = select_asks own tag false mailbox parameters
  command_asks own tag at (command.Examine mailbox parameters) = select_asks own tag true mailbox parameters
  command_asks own tag at command.Close = close_asks own tag own.selected
  command_asks own tag at command.Unselect = unselect_asks tag _ own.selected refl
  command_asks own tag at command.Idle = none_asked
  command_asks own tag at what = answer_asks own (may_tell_expunges what) (λ view. command_answer view own tag at what) (of_commands own tag at what)

  request_asks : (own : SessionState) (at : Moment) (what : Request) → AsksAlike (λ view. (request_outcome view own at what).effect)
  request_asks own at (request.Command tag what) = command_asks own tag at what
  request_asks own at (request.Malformed tag) = none_asked
  request_asks own at (request.TooBig tag) = none_asked

  idle_asks : (own : SessionState) (at : Moment) (what : Act) (idle : Option (List ℕ)) → AsksAlike (λ view. (reply_by_idle view own at what idle).effect)
  idle_asks own at (act.Do what) None = request_asks own at what
  idle_asks own at (act.Do what) (Some tag) = none_asked
  idle_asks own at act.Poll None = none_asked
  idle_asks own at act.Poll (Some tag) = none_asked
  idle_asks own at act.Done None = none_asked
  idle_asks own at act.Done (Some tag) = none_asked
  idle_asks own at act.Open None = none_asked
  idle_asks own at act.Open (Some tag) = none_asked
  idle_asks own at act.Leave None = none_asked
  idle_asks own at act.Leave (Some tag) = none_asked

  open_asks : (own : SessionState) (at : Moment) (what : Act) → AsksAlike (λ view. (reply_when_open view own at what).effect)
  open_asks own at act.Open = none_asked
  open_asks own at act.Leave = none_asked
  open_asks own at (act.Do what) = unless_lost_asks (λ view. is_lost view own) (λ view. reply_by_idle view own at (act.Do what) own.idle) (idle_asks own at (act.Do what) own.idle)
  open_asks own at act.Poll = unless_lost_asks (λ view. is_lost view own) (λ view. reply_by_idle view own at act.Poll own.idle) (idle_asks own at act.Poll own.idle)
  open_asks own at act.Done = unless_lost_asks (λ view. is_lost view own) (λ view. reply_by_idle view own at act.Done own.idle) (idle_asks own at act.Done own.idle)

  begun_asks : (full : Bool) → (cond full (said (response.Bye LimitReached ∷ []) session.Keep) opened).effect ≡ None
  begun_asks true = refl
  begun_asks false = refl

  closed_asks : (own : Own) (what : Act) → (reply_when_closed own what).effect ≡ None
  closed_asks own act.Open = begun_asks (nat_le max_sessions (map.len own))
  closed_asks own act.Leave = refl
  closed_asks own act.Poll = refl
  closed_asks own act.Done = refl
  closed_asks own (act.Do what) = refl

  session_asks : (own : Own) (step : Step) (active : Option SessionState) → AsksAlike (λ view. (reply_by_session view own step active).effect)
  session_asks own step None = same_asks (λ view. (reply_when_closed own step.act).effect) (λ view. None) (λ view. closed_asks own step.act) none_asked
  session_asks own step (Some active) = open_asks active step.at step.act

  step_asks : (own : Option Own) (step : Step) → AsksAlike (λ view. (outcome_for view own step).effect)
  step_asks None step = none_asked
  step_asks (Some own) step = session_asks own step (map.get own step.who.number)

  -- ---- a step

  module _ (s t : State) (step : Step) (alike : Alike step.who.user s t) where
    abbrev user : List ℕ
    user = step.who.user

    sites : s.site ≡ t.site
    sites = sym (site_of s.site user s.world) ∙ ap (λ (view : View). view.site) alike.views ∙ site_of t.site user t.world

    one_site : view_of s.site user s.world ≡ view_of s.site user t.world
    one_site = alike.views ∙ sym (ap (λ (site : Site). view_of site user t.world) sites)

    -- the sessions of the second state, by what is seen in the first
    here : outcome s step ≡ outcome_for (view_in s user) (own_in t user) step
    here = outcomes_same s.site user s.world alike.kept step (own_in s user) (own_in t user) alike.sessions

    outcomes : outcome s step ≡ outcome t step
    outcomes = here ∙ (λ i. outcome_for (alike.views i) (own_in t user) step)

    views_after : view_in (next s step) user ≡ view_in (next t step) user
    views_after =
        ap (λ (outcome : Outcome). view_of s.site user (after_all (effects_of outcome.effect) s.world)) here
        ∙ step_asks (own_in t user) step s.site user s.world t.world alike.kept alike.kept_other one_site
        ∙ (λ i. view_of (sites i) user (after_all (effects_of (outcome_for (view_of (sites i) user t.world) (own_in t user) step).effect) t.world))

    sessions_after : AreBoth (AreOwnAlike (next s step).world user) (own_in (next s step) user) (own_in (next t step) user)
    sessions_after =
        let after = (next s step).world in
        let change = (outcome s step).session in
        let grown = grown_by s.world alike.kept (outcome s step).effect in
        let still = alike_stay s.world after alike.kept grown user (own_in s user) (own_in t user) alike.sessions in
        subst (λ (own : Option Own). AreBoth (AreOwnAlike after user) own (own_in (next t step) user)) (sym (own_in-next s step))
        (subst (λ (other : Option Own). AreBoth (AreOwnAlike after user) (own_after_change (own_in s user) step.who.number change) other)
        (sym (own_in-next t step ∙ ap (λ (outcome : Outcome). own_after_change (own_in t user) step.who.number outcome.session) (sym outcomes)))
        (both_changed after user step.who.number change (own_in s user) (own_in t user) still))

  pub alike_on : StepsAreAlike
  alike_on s t step alike = (
    ap (λ (outcome : Outcome). outcome.replies) (outcomes s t step alike),
    record {
      views = views_after s t step alike;
      sessions = sessions_after s t step alike;
      kept = kept_next s step alike.kept;
      kept_other = kept_next t step alike.kept_other;
    },
  )
