-- To sessions that are alike the same is answered, and the same becomes of them.
use Rattle.std.proofs.Common.{◌≡◌, ◌⊎◌, ℕ, Bool, true, false, cond, List, [], ◌∷◌, ◌++◌, Option, Some, None, refl, sym, ap, subst, ◌∙◌}
use Rattle.std.specs.Prelude.{nat_le, option_map}
use Rattle.std.specs.FinMap as map
use Rattle.imap_answer.specs.Alike.{view_after_asking}
use Rattle.imap_answer.specs.Answer.{Answer, done, done_line, followed_by, nothing_enabled, preceded_by, refusal}
use Rattle.imap_answer.specs.Fit.{IsFit}
use Rattle.imap_changes.specs.Expunge.{close_if_selected}
use Rattle.imap_commands.specs.declared.command.Command.{Command}
use Rattle.imap_commands.specs.declared.command.Command.TheVariants as command
use Rattle.imap_commands.specs.declared.commands.select.SelectParameters.{SelectParameters}
use Rattle.imap_commands.specs.declared.request.Request.{Request}
use Rattle.imap_commands.specs.declared.request.Request.TheVariants as request
use Rattle.imap_messages.specs.Select.{is_malformed}
use Rattle.imap_print.specs.declared.response.Farewell.TheVariants.{LimitReached}
use Rattle.imap_print.specs.declared.response.Refusal.TheVariants.{Malformed}
use Rattle.imap_print.specs.declared.response.Response.TheVariants as response
use Rattle.imap_session.specs.declared.options.NoticeOptions.{NoticeOptions}
use Rattle.imap_session.specs.declared.select.Selecting.{Selecting}
use Rattle.imap_session.specs.Lost.{is_lost}
use Rattle.imap_session.specs.State.{Selection, SessionState}
use Rattle.imap_sessions.proofs.Alike.{AreKnownAlike, as_many, may_stay, read_alike}
use Rattle.imap_sessions.proofs.InStep.{grown_by}
use Rattle.imap_sessions.specs.Alike.{AreBoth, AreOwnAlike, AreSelectionsAlike, AreSessionsAlike, KnowsAsUpTo, with_up_to}
use Rattle.imap_sessions.specs.declared.sessions.SessionEffect.TheVariants as session
use Rattle.imap_sessions.specs.Notices.{idle_lines, idle_telling, is_bad, mailbox_after, mailbox_left, may_tell_expunges, notice_lines, notice_options, notice_telling, noting, options_after, selected_mailbox}
use Rattle.imap_sessions.specs.Sessions.{Own, max_sessions}
use Rattle.imap_syntax.specs.Moments.{Moment}
use Rattle.imap_view.specs.declared.readable.Readable.{Readable}
use Rattle.imap_view.specs.View.{View, view_of}
use Rattle.imap_world.specs.declared.site.Site.{Site}
use Rattle.imap_world.specs.Kept.{AreKept}
use Rattle.imap_world.specs.Laws.{MessagesGrown}
use Rattle.imap_world.specs.World.{World}
use Rattle.imap_core.specs.declared.idling.Idling.{Idling}
use Rattle.imap_core.specs.declared.idling.Idling.TheVariants as idling
use Rattle.imap_core.specs.declared.step.Act.{Act}
use Rattle.imap_core.specs.declared.step.Act.TheVariants as act
use Rattle.imap_core.specs.declared.step.Step.{Step}
use Rattle.imap_core.specs.Answers.{command_answer}
use Rattle.imap_core.specs.Machine.{outcome_for}
use Rattle.imap_core.specs.Outcome.{answered, said}
use Rattle.imap_core.specs.Reply.{close_outcome, command_outcome, highest_line, idle_outcome, if_selected, kept, newly_enables_condstore, opened, outcome_of_answer, outcome_of_selecting}
use Rattle.imap_core.specs.Reply.{reply_by_idle, reply_by_session, reply_when_closed, reply_when_open, request_outcome, select_outcome, unless_lost, unselect_outcome, with_highest, with_notices}
use Rattle.imap_core.proofs.Fitting.{command_fits, highest_fits}
use Rattle.imap_core.proofs.InStep.{IsLeft, after_answer, kept_after_answer, left_after_answer, left_is, some_same}
use Rattle.imap_core.proofs.SameAnswers.{KnowsAlike, same_answer, same_close, same_left, same_lines, same_lost, same_mailbox, same_select, same_telling, told_up_to}

-- ---- what the session knows, by either mod-sequence

abbrev pub MayDiffer : World → (user : List ℕ) → (up_to : ℕ) → Option Selection → Type 0
MayDiffer world user up_to None = Unit {0}
MayDiffer world user up_to (Some s) = (s.up_to ≡ up_to) ⊎ KnowsAsUpTo world user up_to s

still_may : (old new : World) → AreKept old.mailboxes → MessagesGrown old new → (user : List ℕ) (up_to : ℕ) (selected : Option Selection) → MayDiffer old user up_to selected → MayDiffer new user up_to selected
still_may old new kept grown user up_to None h = tt
still_may old new kept grown user up_to (Some s) h = may_stay old new kept grown user up_to s h

knows_left : (site : Site) (user : List ℕ) (world : World) (kept : AreKept world.mailboxes) (up_to : ℕ) (selected : Option Selection) → MayDiffer world user up_to selected → (mailbox : Option Readable)
    → ((s : Selection) (r : Readable) → selected ≡ Some s → mailbox ≡ Some r → IsLeft site user world kept s r) → KnowsAlike up_to selected mailbox
knows_left site user world kept up_to None h mailbox left = λ s r selected is. absurd (cc selected)
knows_left site user world kept up_to (Some t) h mailbox left = λ s r selected is.
    let found = left t r refl is in
    subst (λ (s : Selection). AreKnownAlike s.up_to up_to r.rows) (some_same t s selected) (read_alike site user world up_to t h r found.readable found.same)

-- ---- of an open session

module _ (site : Site) (user : List ℕ) (world : World) (kept_now : AreKept world.mailboxes) (up_to : ℕ) (own : SessionState) (h : MayDiffer world user up_to own.selected) where
  abbrev seen : View
  seen = view_of site user world

  abbrev otherwise : SessionState
  otherwise = told_up_to up_to own

  knows_now : KnowsAlike up_to own.selected (mailbox_left seen own)
  knows_now = knows_left site user world kept_now up_to own.selected h (mailbox_left seen own) (λ s r selected is. left_is site user world kept_now own s r selected is)

  -- a session that has not lost its mailbox
  knows_selected : is_lost seen own ≡ false → KnowsAlike up_to own.selected (selected_mailbox seen own.selected)
  knows_selected unlost s r selected is = knows_now s r selected (ap (λ b. cond b None (selected_mailbox seen own.selected)) unlost ∙ is)

  notices_same : (expunges : Bool) (answer : Answer) → IsFit seen answer → with_notices seen otherwise expunges answer ≡ with_notices seen own expunges answer
  notices_same expunges answer fit =
      ap (λ (mailbox : Option Readable). answered (followed_by (notice_lines o answer.told otherwise.selected mailbox) answer) (noting answer.enables (notice_telling o otherwise.selected mailbox))) mailboxes
      ∙ (λ i. answered (followed_by (same_lines o up_to answer.told own.selected mailbox knows i) answer) (noting answer.enables (same_telling o up_to own.selected mailbox knows i)))
    where
      o : NoticeOptions
      o = options_after expunges own answer

      mailbox : Option Readable
      mailbox = mailbox_after seen own answer

      mailboxes : mailbox_after seen otherwise answer ≡ mailbox_after seen own answer
      mailboxes = ap (λ (left : Option Readable). cond (is_bad answer.last) None left) (same_left (view_after_asking answer.effect seen) up_to own)

      knows : KnowsAlike up_to own.selected (mailbox_after seen own answer)
      knows = knows_left site user (after_answer site user world kept_now answer fit) (kept_after_answer site user world kept_now answer fit) up_to own.selected
          (still_may world (after_answer site user world kept_now answer fit) kept_now (grown_by world kept_now answer.effect) user up_to own.selected h)
          (mailbox_after seen own answer) (λ s r selected is. left_after_answer site user world kept_now answer fit own s r selected is)

  answer_same : (expunges : Bool) (answer : Answer) → IsFit seen answer → outcome_of_answer seen otherwise expunges answer ≡ outcome_of_answer seen own expunges answer
  answer_same expunges answer fit = ap (λ (answer : Answer). with_notices seen otherwise expunges answer) highest ∙ by (newly_enables_condstore own answer)
    where
      highest : with_highest seen otherwise answer ≡ with_highest seen own answer
      highest = ap (λ (mailbox : Option Readable). cond (newly_enables_condstore own answer) (preceded_by (highest_line mailbox) answer) answer) (same_mailbox seen up_to own.selected)

      by : (b : Bool) → with_notices seen otherwise expunges (cond b (preceded_by (highest_line (selected_mailbox seen own.selected)) answer) answer)
          ≡ with_notices seen own expunges (cond b (preceded_by (highest_line (selected_mailbox seen own.selected)) answer) answer)
      by true = notices_same expunges (preceded_by (highest_line (selected_mailbox seen own.selected)) answer) (highest_fits seen None 0 act.Poll answer fit (selected_mailbox seen own.selected))
      by false = notices_same expunges answer fit

  -- ---- IDLE

  idle_same : (step : Idling) → idle_outcome seen otherwise step ≡ idle_outcome seen own step
  idle_same step = by step
    where
      lines : idle_lines seen otherwise ≡ idle_lines seen own
      lines = ap (λ (mailbox : Option Readable). notice_lines (notice_options true own.enabled) [] otherwise.selected mailbox) (same_left seen up_to own)
          ∙ same_lines (notice_options true own.enabled) up_to [] own.selected (mailbox_left seen own) knows_now

      telling : idle_telling seen otherwise ≡ idle_telling seen own
      telling = ap (λ (mailbox : Option Readable). notice_telling (notice_options true own.enabled) otherwise.selected mailbox) (same_left seen up_to own)
          ∙ same_telling (notice_options true own.enabled) up_to own.selected (mailbox_left seen own) knows_now

      by : (step : Idling) → idle_outcome seen otherwise step ≡ idle_outcome seen own step
      by (idling.Begins tag) = λ i. said (response.Idling ∷ lines i) (session.Idle (Some tag) (telling i))
      by idling.Polls = λ i. said (lines i) (noting nothing_enabled (telling i))
      by (idling.Ends tag) = λ i. said (lines i ++ done_line tag ∷ []) (session.Idle None (telling i))

  -- ---- mailboxes that are selected

  select_same : (tag : List ℕ) (read_only : Bool) (mailbox : List ℕ) (parameters : SelectParameters) → select_outcome seen otherwise tag read_only mailbox parameters ≡ select_outcome seen own tag read_only mailbox parameters
  select_same tag read_only mailbox parameters =
      ap (λ (selecting : Selecting). cond (is_malformed own.enabled parameters) (kept (refusal tag Malformed)) (outcome_of_selecting selecting)) (same_select seen up_to own tag read_only mailbox parameters)

  unselect_same : (tag : List ℕ) → unselect_outcome otherwise tag ≡ unselect_outcome own tag
  unselect_same tag = by own.selected
    where
      by : (selected : Option Selection) → if_selected (option_map (with_up_to up_to) selected) tag (answered (done tag) (session.Select nothing_enabled None))
          ≡ if_selected selected tag (answered (done tag) (session.Select nothing_enabled None))
      by None = refl
      by (Some s) = refl

  close_same : (tag : List ℕ) → close_outcome seen otherwise tag ≡ close_outcome seen own tag
  close_same tag = by own.selected
    where
      by : (selected : Option Selection) → if_selected (option_map (with_up_to up_to) selected) tag (answered (close_if_selected seen tag (option_map (with_up_to up_to) selected)) (session.Select nothing_enabled None))
          ≡ if_selected selected tag (answered (close_if_selected seen tag selected) (session.Select nothing_enabled None))
      by None = refl
      by (Some s) = ap (λ (answer : Answer). answered answer (session.Select nothing_enabled None)) (same_close seen up_to tag (Some s))

  -- ---- commands and acts

  module _ (unlost : is_lost seen own ≡ false) where
    command_same : (tag : List ℕ) (at : Moment) (asked : Command) → command_outcome seen otherwise tag at asked ≡ command_outcome seen own tag at asked
    command_same tag at command.Logout = refl
    command_same tag at (command.Select mailbox parameters) = select_same tag false mailbox parameters
    command_same tag at (command.Examine mailbox parameters) = select_same tag true mailbox parameters
    command_same tag at command.Close = close_same tag
    command_same tag at command.Unselect = unselect_same tag
    command_same tag at command.Idle = idle_same (idling.Begins tag)
    command_same tag at asked =
        ap (λ (answer : Answer). outcome_of_answer seen otherwise (may_tell_expunges asked) answer) (same_answer seen up_to own (knows_selected unlost) tag at asked)
        ∙ answer_same (may_tell_expunges asked) (command_answer seen own tag at asked) (command_fits seen own tag at asked)

    request_same : (at : Moment) (asked : Request) → request_outcome seen otherwise at asked ≡ request_outcome seen own at asked
    request_same at (request.Command tag asked) = command_same tag at asked
    request_same at (request.Malformed tag) = refl
    request_same at (request.TooBig tag) = refl

    by_idle : (at : Moment) (what : Act) (idle : Option (List ℕ)) → reply_by_idle seen otherwise at what idle ≡ reply_by_idle seen own at what idle
    by_idle at (act.Do asked) None = request_same at asked
    by_idle at (act.Do asked) (Some tag) = refl
    by_idle at act.Poll None = refl
    by_idle at act.Poll (Some tag) = idle_same idling.Polls
    by_idle at act.Done None = refl
    by_idle at act.Done (Some tag) = idle_same (idling.Ends tag)
    by_idle at act.Open None = refl
    by_idle at act.Open (Some tag) = refl
    by_idle at act.Leave None = refl
    by_idle at act.Leave (Some tag) = refl

  unless_same : (at : Moment) (what : Act) → unless_lost (is_lost seen otherwise) (reply_by_idle seen otherwise at what own.idle) ≡ unless_lost (is_lost seen own) (reply_by_idle seen own at what own.idle)
  unless_same at what = ap (λ b. unless_lost b (reply_by_idle seen otherwise at what own.idle)) (same_lost seen up_to own.selected) ∙ by (is_lost seen own) refl
    where
      by : (b : Bool) → is_lost seen own ≡ b → unless_lost b (reply_by_idle seen otherwise at what own.idle) ≡ unless_lost b (reply_by_idle seen own at what own.idle)
      by true is = refl
      by false unlost = by_idle unlost at what own.idle

  pub act_same : (at : Moment) (what : Act) → reply_when_open seen otherwise at what ≡ reply_when_open seen own at what
  act_same at act.Open = refl
  act_same at act.Leave = refl
  act_same at (act.Do asked) = unless_same at (act.Do asked)
  act_same at act.Poll = unless_same at act.Poll
  act_same at act.Done = unless_same at act.Done

-- ---- sessions that are alike

record IsToldOtherwise (world : World) (user : List ℕ) (own other : SessionState) : Type 0 where
  up_to : ℕ
  is : other ≡ told_up_to up_to own
  may : MayDiffer world user up_to own.selected

told_otherwise : (world : World) (user : List ℕ) (own other : SessionState) → AreSessionsAlike world user own other → IsToldOtherwise world user own other
told_otherwise world user own other h =
    let found = by own.selected other.selected h.selected in
    record {
      up_to = found.0;
      is = λ i. record { selected = found.1 i; enabled = sym h.enabled i; idle = sym h.idle i };
      may = found.2;
    }
  where
    by : (a b : Option Selection) → AreBoth (AreSelectionsAlike world user) a b → (up_to : ℕ) × (b ≡ option_map (with_up_to up_to) a) × MayDiffer world user up_to a
    by None None h = (0, refl, tt)
    by None (Some t) h = absurd h
    by (Some s) None h = absurd h
    by (Some s) (Some t) h = (t.up_to, ap Some h.same, h.known)

full_same : (m n : ℕ) → m ≡ n → cond (nat_le max_sessions m) (said (response.Bye LimitReached ∷ []) session.Keep) opened ≡ cond (nat_le max_sessions n) (said (response.Bye LimitReached ∷ []) session.Keep) opened
full_same m n e = ap (λ (n : ℕ). cond (nat_le max_sessions n) (said (response.Bye LimitReached ∷ []) session.Keep) opened) e

closed_same : (own other : Own) → map.len own ≡ map.len other → (what : Act) → reply_when_closed own what ≡ reply_when_closed other what
closed_same own other e act.Open = full_same (map.len own) (map.len other) e
closed_same own other e act.Leave = refl
closed_same own other e act.Poll = refl
closed_same own other e act.Done = refl
closed_same own other e (act.Do asked) = refl

module _ (site : Site) (user : List ℕ) (world : World) (kept_now : AreKept world.mailboxes) (step : Step) where
  by_session : (own other : Own) → AreOwnAlike world user own other → (a b : Option SessionState) → AreBoth (AreSessionsAlike world user) a b
      → reply_by_session (view_of site user world) own step a ≡ reply_by_session (view_of site user world) other step b
  by_session own other h None None same = closed_same own other (as_many world user own other h) step.act
  by_session own other h None (Some b) same = absurd same
  by_session own other h (Some a) None same = absurd same
  by_session own other h (Some a) (Some b) same =
      let told = told_otherwise world user a b same in
      sym (act_same site user world kept_now told.up_to a told.may step.at step.act) ∙ ap (λ (b : SessionState). reply_when_open (view_of site user world) b step.at step.act) (sym told.is)

  pub outcomes_same : (own other : Option Own) → AreBoth (AreOwnAlike world user) own other → outcome_for (view_of site user world) own step ≡ outcome_for (view_of site user world) other step
  outcomes_same None None h = refl
  outcomes_same None (Some other) h = absurd h
  outcomes_same (Some own) None h = absurd h
  outcomes_same (Some own) (Some other) h = by_session own other h (map.get own step.who.number) (map.get other step.who.number) (h.at step.who.number)
