-- After a step in which expunges may be told, its session knows the messages of its mailbox.
use Rattle.std.proofs.Common.{◌≡◌, ℕ, Bool, true, false, cond, List, [], ◌∷◌, ◌++◌, ◌||◌, Option, Some, None, refl, sym, ap, subst, ◌∙◌}
use Rattle.std.specs.List.{list_any}
use Rattle.std.specs.Prelude.{option_and_then}
use Rattle.std.proofs.lemmas.List.Folds.{list_any-append}
use Rattle.std.specs.FinMap as map
use Rattle.imap_answer.specs.Alike.{view_after_asking}
use Rattle.imap_answer.specs.Answer.{Answer, done, nothing_enabled, refusal}
use Rattle.imap_answer.specs.Name.{name_of_text}
use Rattle.imap_changes.specs.Expunge.{close_answer}
use Rattle.imap_commands.specs.declared.command.Command.{Command}
use Rattle.imap_commands.specs.declared.command.Command.TheVariants as command
use Rattle.imap_commands.specs.declared.commands.select.SelectParameters.{SelectParameters}
use Rattle.imap_commands.specs.declared.request.Request.TheVariants as request
use Rattle.imap_mailbox.proofs.BroughtUp.{shown_is_ordered}
use Rattle.imap_mailbox.specs.Order.{AreAtMost}
use Rattle.imap_mailbox.specs.Rows.{first_uid}
use Rattle.imap_mailbox.specs.Shown.{content_of}
use Rattle.imap_mailbox.specs.Summary.{AreRising}
use Rattle.imap_names.specs.Name.{Name}
use Rattle.imap_print.specs.declared.enabled.EnabledCapabilities.{EnabledCapabilities}
use Rattle.imap_print.specs.declared.response.Refusal.TheVariants.{Malformed}
use Rattle.imap_print.specs.declared.response.Response.{Response}
use Rattle.imap_session.proofs.AfterNotices.{notices_tell_selection}
use Rattle.imap_session.proofs.ByUid.{uids_of}
use Rattle.imap_session.specs.declared.options.NoticeOptions.{NoticeOptions}
use Rattle.imap_session.specs.Lost.{has_other_validity, is_lost, is_lost_selection}
use Rattle.imap_messages.specs.Select.{is_malformed, lines_if_asked, select_with_parameters, with_lines}
use Rattle.imap_session.specs.Select.{select_if_named, select_if_readable, selected_as}
use Rattle.imap_session.specs.State.{Selection, SessionState}
use Rattle.imap_session.specs.Telling.{Telling}
use Rattle.imap_session.specs.Told.{KnowsRows, selection_after, selection_telling}
use Rattle.imap_syntax.specs.Moments.{Moment}
use Rattle.imap_view.specs.declared.readable.Readable.{Readable}
use Rattle.imap_view.specs.Readable.{readable_in}
use Rattle.imap_view.specs.View.{View}
use Rattle.imap_core.specs.declared.idling.Idling.{Idling}
use Rattle.imap_core.specs.declared.idling.Idling.TheVariants as idling
use Rattle.imap_sessions.specs.declared.sessions.SessionEffect.TheVariants as session
use Rattle.imap_core.specs.declared.step.Act.{Act}
use Rattle.imap_core.specs.declared.step.Act.TheVariants as act
use Rattle.imap_core.specs.Laws.{KnowsMessages, MessagesAreKnown, may_be_told}
use Rattle.imap_core.specs.Machine.{next, outcome, own_in, view_in}
use Rattle.imap_sessions.specs.Notices.{enables_nothing, idle_telling, is_bad, mailbox_after, mailbox_left, may_tell_expunges, notice_lines, notice_options, notice_telling, noting, options_after, selected_mailbox}
use Rattle.imap_core.specs.Outcome.{Outcome, answered}
use Rattle.imap_core.specs.Answers.{command_answer}
use Rattle.imap_core.specs.Reply.{command_outcome, idle_outcome, if_selected, kept, outcome_of_answer, outcome_of_selecting, reply_by_idle, reply_by_session, reply_when_open, select_outcome, unless_lost, with_highest, with_notices}
use Rattle.imap_sessions.specs.Sessions.{Own, edited}
use Rattle.imap_core.proofs.InStep.{left_is, session_there, session_with, some_same, told_selection}
use Rattle.imap_sessions.proofs.InStep.{grown_by, stays}
use Rattle.imap_core.proofs.Preparing.{outcome_known}
use Rattle.imap_core.proofs.Steps.{kept_next, view_in-next}
use Rattle.imap_sessions.specs.InStep.{IsInStep}
use Rattle.imap_sessions.proofs.Reading.{read_of}
use Rattle.imap_world.specs.Kept.{AreKept}
use Rattle.imap_world.specs.World.{World}

-- ---- the mailbox that is told

-- the mailbox of a selection, unless it is lost
abbrev left_of : View → Option Selection → Option Readable
left_of view selected = cond (is_lost_selection view selected) None (selected_mailbox view selected)

module _ (view : View) where
  left_same : (t : Option Telling) (s : Selection) → left_of view (Some (selection_after t s)) ≡ left_of view (Some s)
  left_same None s = refl
  left_same (Some t) s = refl

  told_is : (t : Option Telling) (s : Selection) → told_selection t (Some s) ≡ Some (selection_after t s)
  told_is None s = refl
  told_is (Some t) s = refl

  -- what a session knows that is told of the mailbox
  told_knows : (o : NoticeOptions) → o.expunges ≡ true → (selected : Option Selection) (s : Selection) (mailbox : Readable)
      → ((old : Selection) (r : Readable) → selected ≡ Some old → left_of view (Some old) ≡ Some r → AreRising old.known × AreAtMost r.highest r.rows)
      → told_selection (notice_telling o selected (left_of view selected)) selected ≡ Some s → left_of view (Some s) ≡ Some mailbox → KnowsRows mailbox.rows s
  told_knows o all None s mailbox fits is there = absurd (cc is)
  told_knows o all (Some old) s mailbox fits is there = by (left_of view (Some old)) refl is
    where
      by : (left : Option Readable) → left_of view (Some old) ≡ left → told_selection (notice_telling o (Some old) left) (Some old) ≡ Some s → KnowsRows mailbox.rows s
      by None left is = absurd (cc (sym left ∙ ap (λ s. left_of view (Some s)) (some_same old s is) ∙ there))
      by (Some r) left is =
          let t : Option Telling = selection_telling o r.rows r.highest old in
          let new : selection_after t old ≡ s = some_same (selection_after t old) s (sym (told_is t old) ∙ is) in
          let one : r ≡ mailbox = some_same r mailbox (sym left ∙ sym (left_same t old) ∙ ap (λ s. left_of view (Some s)) new ∙ there) in
          let fit = fits old r refl left in
          subst (λ (r : Readable). KnowsRows r.rows s) one (subst (KnowsRows r.rows) new (notices_tell_selection o r.highest r.rows old all fit.0 fit.1))

-- ---- after a step

-- what a session that is told of its mailbox is in step with
record Fits (view : View) (own : SessionState) : Type 0 where
  rows : (name : Name) (r : Readable) → readable_in view name ≡ Some r → AreAtMost r.highest r.rows
  rising : (s : Selection) (r : Readable) → own.selected ≡ Some s → mailbox_left view own ≡ Some r → AreRising s.known

-- the session after what a step asks of it knows the messages of its mailbox
abbrev Knows : View → SessionState → Outcome → Type 0
Knows view own outcome = Fits (view_after_asking outcome.effect view) own → (after : SessionState) → session_with outcome.session (Some own) ≡ Some after → KnowsMessages (view_after_asking outcome.effect view) after

noted : (enables : EnabledCapabilities) (t : Option Telling) (own after : SessionState) → session_with (noting enables t) (Some own) ≡ Some after → told_selection t own.selected ≡ after.selected
noted enables None own after is = by (enables_nothing enables) is
  where
    by : (nothing : Bool) → session_with (cond nothing session.Keep (session.Note enables None)) (Some own) ≡ Some after → own.selected ≡ after.selected
    by true is = ap (λ (state : SessionState). state.selected) (some_same own after is)
    by false is = ap (λ (state : SessionState). state.selected) (some_same (edited (session.Note enables None) own) after is)
noted enables (Some t) own after is = ap (λ (state : SessionState). state.selected) (some_same (edited (session.Note enables (Some t)) own) after is)

idled : (tag : Option (List ℕ)) (t : Option Telling) (own after : SessionState) → session_with (session.Idle tag t) (Some own) ≡ Some after → told_selection t own.selected ≡ after.selected
idled tag None own after is = ap (λ (state : SessionState). state.selected) (some_same (edited (session.Idle tag None) own) after is)
idled tag (Some t) own after is = ap (λ (state : SessionState). state.selected) (some_same (edited (session.Idle tag (Some t)) own) after is)

right_none : (a b : Bool) → (a || b) ≡ false → b ≡ false
right_none true b e = absurd (cc e)
right_none false b e = e

left_none : (a b : Bool) → (a || b) ≡ false → a ≡ false
left_none true b e = absurd (cc e)
left_none false b e = refl

module _ (view : View) (own : SessionState) where
  -- a session that is told of its mailbox
  told_so : (after_view : View) (o : NoticeOptions) → o.expunges ≡ true → Fits after_view own → (after : SessionState)
      → told_selection (notice_telling o own.selected (mailbox_left after_view own)) own.selected ≡ after.selected → KnowsMessages after_view after
  told_so after_view o all fits after is s mailbox selected left =
      told_knows after_view o all own.selected s mailbox fit (is ∙ selected) (ap (left_of after_view) (sym selected) ∙ left)
    where
      readable_left : (lost : Bool) (r : Readable) (found : Option Readable) → cond lost None found ≡ Some r → found ≡ Some r
      readable_left true r found e = absurd (cc e)
      readable_left false r found e = e

      fit : (old : Selection) (r : Readable) → own.selected ≡ Some old → left_of after_view (Some old) ≡ Some r → AreRising old.known × AreAtMost r.highest r.rows
      fit old r selected left = (
        fits.rising old r selected (ap (left_of after_view) selected ∙ left),
        fits.rows old.name r (readable_left (is_lost_selection after_view (Some old)) r (readable_in after_view old.name) left),
      )

  idle_knows : (what : Idling) → Knows view own (idle_outcome view own what)
  idle_knows (idling.Begins tag) fits after is = told_so view (notice_options true own.enabled) refl fits after (idled (Some tag) (idle_telling view own) own after is)
  idle_knows idling.Polls fits after is = told_so view (notice_options true own.enabled) refl fits after (noted nothing_enabled (idle_telling view own) own after is)
  idle_knows (idling.Ends tag) fits after is = told_so view (notice_options true own.enabled) refl fits after (idled None (idle_telling view own) own after is)

  -- the last line isn't BAD
  last_good : (answer : Answer) (lines : List Response) → list_any is_bad ((answer.untagged ++ lines) ++ answer.last ∷ []) ≡ false → is_bad answer.last ≡ false
  last_good answer lines good =
      left_none (is_bad answer.last) false (right_none (list_any is_bad (answer.untagged ++ lines)) (list_any is_bad (answer.last ∷ []))
      (sym (list_any-append is_bad (answer.untagged ++ lines) (answer.last ∷ [])) ∙ good))

  notices_know : (answer : Answer) → list_any is_bad (with_notices view own true answer).replies ≡ false → Knows view own (with_notices view own true answer)
  notices_know answer good fits after is =
      let o = options_after true own answer in
      let seen = view_after_asking answer.effect view in
      let mailbox = mailbox_after view own answer in
      let bad = last_good answer (notice_lines o answer.told own.selected mailbox) good in
      told_so seen o refl fits after
      (ap (λ b. told_selection (notice_telling o own.selected (cond b None (mailbox_left seen own))) own.selected) (sym bad)
      ∙ noted answer.enables (notice_telling o own.selected mailbox) own after is)

  answer_knows : (expunges : Bool) → expunges ≡ true → (answer : Answer) → list_any is_bad (outcome_of_answer view own expunges answer).replies ≡ false → Knows view own (outcome_of_answer view own expunges answer)
  answer_knows true all answer good = notices_know (with_highest view own answer) good
  answer_knows false all answer good = absurd (cc all)

  -- ---- mailboxes that are selected

  selects_none : (answer : Answer) (more : EnabledCapabilities) → Knows view own (answered answer (session.Select more None))
  selects_none answer more fits after is s mailbox selected left = absurd (cc (ap (λ (state : SessionState). state.selected) (some_same (edited (session.Select more None) own) after is) ∙ selected))

  selected_knows : (more : EnabledCapabilities) (name : Name) (read_only : Bool) (mailbox : Readable) → readable_in view name ≡ Some mailbox → Fits view own → (after : SessionState)
      → session_with (session.Select more (Some (selected_as name read_only mailbox))) (Some own) ≡ Some after → KnowsMessages view after
  selected_knows more name read_only mailbox readable fits after is s found selected left =
      let new : Selection = selected_as name read_only mailbox in
      let same : new ≡ s = some_same new s (ap (λ (state : SessionState). state.selected) (some_same (edited (session.Select more (Some new)) own) after is) ∙ selected) in
      let there : left_of view (Some new) ≡ Some found = ap (λ s. left_of view (Some s)) same ∙ ap (left_of view) (sym selected) ∙ left in
      let one : mailbox ≡ found = by (has_other_validity new.validity (Some mailbox)) (sym (ap (λ o. cond (has_other_validity new.validity o) None o) readable) ∙ there) in
      let knows : KnowsRows mailbox.rows new = record { uids = refl; told = fits.rows name mailbox readable } in
      subst (λ (r : Readable). KnowsRows r.rows s) one (subst (KnowsRows mailbox.rows) same knows)
    where
      by : {r : Readable} (other : Bool) → cond other None (Some mailbox) ≡ Some r → mailbox ≡ r
      by true e = absurd (cc e)
      by {r} false e = some_same mailbox r e

  module _ (parameters : SelectParameters) (lines : List Response) (tag : List ℕ) (read_only : Bool) where
    readable_knows : (name : Name) (found : Option Readable) → readable_in view name ≡ found
        → Knows view own (outcome_of_selecting (with_lines parameters lines (select_if_readable view own tag read_only name found)))
    readable_knows name None readable =
        let answer = (with_lines parameters lines (select_if_readable view own tag read_only name None)).answer in
        selects_none answer answer.enables
    readable_knows name (Some mailbox) readable =
        let answer = (with_lines parameters lines (select_if_readable view own tag read_only name (Some mailbox))).answer in
        selected_knows answer.enables name read_only mailbox readable

    named_knows : (name : Option Name) → Knows view own (outcome_of_selecting (with_lines parameters lines (select_if_named view own tag read_only name)))
    named_knows None =
        let answer = (with_lines parameters lines (select_if_named view own tag read_only None)).answer in
        selects_none answer answer.enables
    named_knows (Some name) = readable_knows name (readable_in view name) refl

  -- where QRESYNC isn't enabled, it is BAD
  select_knows : (tag : List ℕ) (read_only : Bool) (mailbox : List ℕ) (parameters : SelectParameters) → list_any is_bad (select_outcome view own tag read_only mailbox parameters).replies ≡ false
      → Knows view own (select_outcome view own tag read_only mailbox parameters)
  select_knows tag read_only mailbox parameters = by (is_malformed own.enabled parameters)
    where
      outcome : Bool → Outcome
      outcome b = cond b (kept (refusal tag Malformed)) (outcome_of_selecting (select_with_parameters view own tag read_only mailbox parameters))

      by : (b : Bool) → list_any is_bad (outcome b).replies ≡ false → Knows view own (outcome b)
      by true good = absurd (cc good)
      by false good = named_knows parameters (lines_if_asked view mailbox parameters.qresync) tag read_only (name_of_text view mailbox)

  -- where no mailbox is selected, it is BAD
  closes : (tag : List ℕ) (answer : Answer) (selected : Option Selection) → list_any is_bad (if_selected selected tag (answered answer (session.Select nothing_enabled None))).replies ≡ false → Knows view own (if_selected selected tag (answered answer (session.Select nothing_enabled None)))
  closes tag answer None good = absurd (cc good)
  closes tag answer (Some s) good = selects_none answer nothing_enabled

  -- ---- commands and acts

  command_knows : (tag : List ℕ) (at : Moment) (asked : Command) → may_tell_expunges asked ≡ true → list_any is_bad (command_outcome view own tag at asked).replies ≡ false → Knows view own (command_outcome view own tag at asked)
  command_knows tag at command.Logout may good = λ fits after is. absurd (cc is)
  command_knows tag at (command.Select mailbox parameters) may good = select_knows tag false mailbox parameters good
  command_knows tag at (command.Examine mailbox parameters) may good = select_knows tag true mailbox parameters good
  command_knows tag at command.Close may good = closes tag (close_answer view own tag) own.selected good
  command_knows tag at command.Unselect may good = closes tag (done tag) own.selected good
  command_knows tag at command.Idle may good = idle_knows (idling.Begins tag)
  command_knows tag at asked may good = answer_knows (may_tell_expunges asked) may (command_answer view own tag at asked) good

  idle_act_knows : (at : Moment) (asked : Act) (idle : Option (List ℕ)) → may_be_told idle asked ≡ true → list_any is_bad (reply_by_idle view own at asked idle).replies ≡ false → Knows view own (reply_by_idle view own at asked idle)
  idle_act_knows at (act.Do (request.Command tag asked)) None may good = command_knows tag at asked may good
  idle_act_knows at (act.Do (request.Malformed tag)) None may good = absurd (cc may)
  idle_act_knows at (act.Do (request.TooBig tag)) None may good = absurd (cc may)
  idle_act_knows at act.Open None may good = absurd (cc may)
  idle_act_knows at act.Poll None may good = absurd (cc may)
  idle_act_knows at act.Done None may good = absurd (cc may)
  idle_act_knows at act.Leave None may good = absurd (cc may)
  idle_act_knows at act.Poll (Some tag) may good = idle_knows idling.Polls
  idle_act_knows at act.Done (Some tag) may good = idle_knows (idling.Ends tag)
  idle_act_knows at act.Open (Some tag) may good = absurd (cc may)
  idle_act_knows at (act.Do asked) (Some tag) may good = absurd (cc may)
  idle_act_knows at act.Leave (Some tag) may good = absurd (cc may)

  unless_lost_knows : (is : Bool) (outcome : Outcome) → (list_any is_bad outcome.replies ≡ false → Knows view own outcome) → list_any is_bad (unless_lost is outcome).replies ≡ false → Knows view own (unless_lost is outcome)
  unless_lost_knows true outcome h good = λ fits after is. absurd (cc is)
  unless_lost_knows false outcome h good = h good

  never_told : (asked : Act) (idle : Option (List ℕ)) → may_be_told idle asked ≡ true → {P : Type 0} → ((idle : Option (List ℕ)) → may_be_told idle asked ≡ false) → P
  never_told asked idle may silent = absurd (cc (sym may ∙ silent idle))

  open_knows : (at : Moment) (asked : Act) → may_be_told own.idle asked ≡ true → list_any is_bad (reply_when_open view own at asked).replies ≡ false → Knows view own (reply_when_open view own at asked)
  open_knows at act.Open may good = never_told act.Open own.idle may by
    where
      by : (idle : Option (List ℕ)) → may_be_told idle act.Open ≡ false
      by None = refl
      by (Some tag) = refl
  open_knows at act.Leave may good = λ fits after is. absurd (cc is)
  open_knows at (act.Do asked) may good = unless_lost_knows (is_lost view own) (reply_by_idle view own at (act.Do asked) own.idle) (idle_act_knows at (act.Do asked) own.idle may) good
  open_knows at act.Poll may good = unless_lost_knows (is_lost view own) (reply_by_idle view own at act.Poll own.idle) (idle_act_knows at act.Poll own.idle may) good
  open_knows at act.Done may good = unless_lost_knows (is_lost view own) (reply_by_idle view own at act.Done own.idle) (idle_act_knows at act.Done own.idle may) good

-- ---- in the machine

pub messages_known : MessagesAreKnown
messages_known state step before after kept there may good left = by (own_in state step.who.user) refl there
  where
    view : View
    view = view_in state step.who.user

    Claim : Outcome → Type 0
    Claim o = list_any is_bad o.replies ≡ false → session_with o.session (Some before) ≡ Some after → Fits (view_after_asking o.effect view) before → KnowsMessages (view_after_asking o.effect view) after

    world : World
    world = (next state step).world

    kept_after : AreKept world.mailboxes
    kept_after = kept_next state step kept.messages

    step_after : IsInStep world step.who.user before.selected
    step_after = stays state.world world (grown_by state.world kept.messages (outcome state step).effect) step.who.user before.selected (kept.sessions.at step.who.user step.who.number before there)

    fits : Fits (view_in (next state step) step.who.user) before
    fits = record {
      rows = λ name r is.
          let read = read_of state.site step.who.user world name r is in
          let ordered = shown_is_ordered read.mailbox.messages step.who.user (kept_after.at name read.mailbox read.there) in
          subst (λ (r : Readable). AreAtMost r.highest r.rows) (sym read.is) ordered.numbers;
      rising = λ s r selected left.
          let found = left_is state.site step.who.user world kept_after before s r selected left in
          let read = read_of state.site step.who.user world s.name r found.readable in
          let own = subst (IsInStep world step.who.user) selected step_after in
          let validity : r.validity ≡ read.mailbox.validity = ap (λ (r : Readable). r.validity) read.is in
          let content = content_of step.who.user read.mailbox.messages in
          (first_uid, content.next, uids_of s.up_to s.known content (own.brought read.mailbox read.there (sym validity ∙ found.same)));
    }

    by : (own : Option Own) → map.get state.accounts step.who.user ≡ own → option_and_then (λ own. map.get own step.who.number) own ≡ Some before → KnowsMessages (view_in (next state step) step.who.user) after
    by None is there = absurd (cc there)
    by (Some own) is there =
        let replied : reply_when_open view before step.at step.act ≡ outcome state step = sym (outcome_known state step own is ∙ ap (reply_by_session view own step) there) in
        let changed = ap (session_with (outcome state step).session) (sym there) ∙ sym (session_there state.accounts step.who (outcome state step).session own is) ∙ left in
        subst (λ view. KnowsMessages view after) (sym (view_in-next state step kept.messages))
        (subst Claim replied (λ good is fits. open_knows view before step.at step.act may good fits after is) good changed
        (subst (λ view. Fits view before) (view_in-next state step kept.messages) fits))
