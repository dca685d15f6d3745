-- Sessions stay in step with their mailboxes, whosever step is made.
use Rattle.std.proofs.Common.{◌≡◌, ℕ, Bool, true, false, cond, not, eqb, ◌&&◌, List, [], ◌∷◌, Option, Some, None, refl, sym, ap, subst, ◌∙◌, arith}
use Rattle.std.specs.Prelude.{nat_le, option_and_then, option_map}
use Rattle.std.specs.Str.{bytes_eq}
use Rattle.std.specs.FinMap as map
use Rattle.std.specs.FinMap.{get-insert, get-remove}
use Rattle.std.specs.Cmp.{nat_cmp_total}
use Rattle.std.proofs.lemmas.Bool.Decides.{nat_tests}
use Rattle.std.proofs.lemmas.Slice.Eq.{bytes_eq-Decides}
use Rattle.imap_answer.proofs.Alike.{after_asking, viewed}
use Rattle.imap_answer.specs.Alike.{effects_of, view_after_asking}
use Rattle.imap_answer.specs.Answer.{Answer, done, nothing_enabled, preceded_by, refusal}
use Rattle.imap_mailbox.proofs.BroughtUp.{shown_is_ordered}
use Rattle.imap_mailbox.specs.Lent.{row_uids}
use Rattle.imap_mailbox.specs.Rows.{first_uid}
use Rattle.imap_mailbox.specs.Shown.{content_of}
use Rattle.imap_names.specs.Name.{Name}
use Rattle.imap_session.proofs.Applying.{changes_are_applied}
use Rattle.imap_session.proofs.ByUid.{all_told_by_uid, uids_of}
use Rattle.imap_session.specs.ByUid.{IsBroughtByUid}
use Rattle.imap_session.proofs.Kept.{told_is_brought}
use Rattle.imap_session.specs.declared.options.NoticeOptions.{NoticeOptions}
use Rattle.imap_session.specs.Lost.{has_other_validity, is_lost, is_lost_selection}
use Rattle.imap_messages.specs.Select.{is_malformed, lines_if_asked, select_with_parameters, with_lines}
use Rattle.imap_session.specs.Select.{select_if_named, select_if_readable, selected_as}
use Rattle.imap_session.specs.Compared.{known_after}
use Rattle.imap_session.specs.State.{Selection, SessionState, new_session, with_telling}
use Rattle.imap_session.specs.Telling.{Telling, difference, is_empty, known_with}
use Rattle.imap_session.specs.Told.{selection_after, selection_telling}
use Rattle.imap_sessions.proofs.Reading.{read_of}
use Rattle.imap_view.specs.declared.readable.Readable.{Readable}
use Rattle.imap_view.specs.Readable.{readable_in}
use Rattle.imap_view.specs.View.{View, view_of}
use Rattle.imap_world.specs.declared.site.Site.{Site}
use Rattle.imap_world.specs.Kept.{AreKept, IsSound}
use Rattle.imap_world.specs.Laws.{MessagesGrown}
use Rattle.imap_world.specs.Mailbox.{Mailbox}
use Rattle.imap_world.specs.World.{World}
use Rattle.imap_sessions.specs.Accounts.{Accounts, accounts_after, session_at}
use Rattle.imap_core.specs.InStep.{AreInStep, SessionsStayInStep}
use Rattle.imap_sessions.specs.InStep.{IsInStep, IsSelectedInStep}
use Rattle.imap_sessions.proofs.Numbered.{at_number, both_true}
use Rattle.imap_core.proofs.StepLaws.{sessions_apart}
use Rattle.imap_core.proofs.Steps.{accounts_after_here, kept_next}
use Rattle.imap_sessions.proofs.InStep.{grown_by, one_is_apart, stays}
use Rattle.imap_sessions.specs.declared.session_id.SessionId.{SessionId}
use Rattle.imap_core.specs.declared.idling.Idling.{Idling}
use Rattle.imap_core.specs.declared.idling.Idling.TheVariants as idling
use Rattle.imap_sessions.specs.declared.sessions.SessionEffect.{SessionEffect}
use Rattle.imap_sessions.specs.declared.sessions.SessionEffect.TheVariants as session
use Rattle.imap_core.specs.declared.step.Act.{Act}
use Rattle.imap_core.specs.declared.step.Act.TheVariants as act
use Rattle.imap_core.specs.declared.step.Step.{Step}
use Rattle.imap_core.specs.Machine.{outcome, outcome_for, own_in}
use Rattle.imap_core.specs.Outcome.{Outcome, answered, said}
use Rattle.imap_changes.specs.Expunge.{close_answer}
use Rattle.imap_core.specs.Answers.{command_answer}
use Rattle.imap_core.specs.Reply.{command_outcome, highest_line, idle_outcome, if_selected, newly_enables_condstore, opened, outcome_of_answer, outcome_of_selecting, reply_by_idle, reply_by_session}
use Rattle.imap_sessions.specs.Notices.{enables_nothing, idle_telling, is_bad, mailbox_after, mailbox_left, may_tell_expunges, notice_options, notice_telling, noting, options_after, selected_mailbox}
use Rattle.imap_core.specs.Reply.{reply_when_closed, reply_when_open, request_outcome, select_outcome, unless_lost, unselect_outcome, close_outcome, with_notices}
use Rattle.imap_core.proofs.Fitting.{command_fits, highest_fits}
use Rattle.imap_world.proofs.Histories.{all_stay_kept, steps_stay_sound}
use Rattle.imap_world.specs.declared.effect.Effect.{Effect}
use Rattle.imap_world.specs.Effects.{after_all}
use Rattle.imap_commands.specs.declared.command.Command.{Command}
use Rattle.imap_commands.specs.declared.command.Command.TheVariants as command
use Rattle.imap_commands.specs.declared.commands.select.SelectParameters.{SelectParameters}
use Rattle.imap_commands.specs.declared.request.Request.{Request}
use Rattle.imap_commands.specs.declared.request.Request.TheVariants as request
use Rattle.imap_syntax.specs.Moments.{Moment}
use Rattle.imap_answer.specs.Fit.{IsFit}
use Rattle.imap_answer.specs.Name.{name_of_text}
use Rattle.imap_print.specs.declared.enabled.EnabledCapabilities.{EnabledCapabilities}
use Rattle.imap_print.specs.declared.response.Farewell.TheVariants.{LimitReached}
use Rattle.imap_print.specs.declared.response.Refusal.TheVariants.{Limit, Malformed, WrongState}
use Rattle.imap_print.specs.declared.response.Response.{Response}
use Rattle.imap_print.specs.declared.response.Response.TheVariants as response
use Rattle.imap_sessions.specs.Sessions.{Own, edited, edited_if_open, max_sessions, own_with}

pub some_same : {A : Type 0} (x y : A) → Some x ≡ Some y → x ≡ y
some_same x y e = cc

-- ---- while mailboxes change

pub all_stay : (old new : World) (accounts : Accounts) → MessagesGrown old new → AreInStep old accounts → AreInStep new accounts
all_stay old new accounts grown h = record { at = λ user number state is. stays old new grown user state.selected (h.at user number state is) }

-- ---- a mailbox that is read

module _ (site : Site) (user : List ℕ) (world : World) (kept : AreKept world.mailboxes) where
  abbrev view : View
  view = view_of site user world

  -- a session that selects it
  pub selects_in_step : (sound : IsSound world) (name : Name) (read_only : Bool) (r : Readable) → readable_in view name ≡ Some r → IsSelectedInStep world user (selected_as name read_only r)
  selects_in_step sound name read_only r is =
      let read = read_of site user world name r is in
      let validity : r.validity ≡ read.mailbox.validity = ap (λ (r : Readable). r.validity) read.is in
      let used = sound.used name read.mailbox read.there in
      let content = content_of user read.mailbox.messages in
      let told = all_told_by_uid content (shown_is_ordered read.mailbox.messages user (kept.at name read.mailbox read.there)) in
      record {
        used = omega (arith, validity, used);
        brought = λ m there same.
            let one : read.mailbox ≡ m = some_same read.mailbox m (sym read.there ∙ there) in
            subst (λ (m : Mailbox). IsBroughtByUid r.highest (row_uids r.rows) (content_of user m.messages)) one
            (subst (λ (r : Readable). IsBroughtByUid r.highest (row_uids r.rows) content) (sym read.is) told);
      }

  -- a session that is told of it
  module _ (o : NoticeOptions) (s : Selection) (r : Readable) (is : readable_in view s.name ≡ Some r) (same : r.validity ≡ s.validity) (h : IsSelectedInStep world user s) where
    told_in_step : IsSelectedInStep world user (with_telling (difference o.expunges s.up_to s.known r.rows r.highest) s)
    told_in_step =
        let read = read_of site user world s.name r is in
        let validity : r.validity ≡ read.mailbox.validity = ap (λ (r : Readable). r.validity) read.is in
        let content = content_of user read.mailbox.messages in
        let ordered = shown_is_ordered read.mailbox.messages user (kept.at s.name read.mailbox read.there) in
        let before = h.brought read.mailbox read.there (sym validity ∙ same) in
        let brought = told_is_brought content o.expunges s.up_to s.known ordered before in
        record {
          used = h.used;
          brought = λ m there _.
              let one : read.mailbox ≡ m = some_same read.mailbox m (sym read.there ∙ there) in
              subst (λ (m : Mailbox). IsBroughtByUid r.highest (known_with (difference o.expunges s.up_to s.known r.rows r.highest) s.known) (content_of user m.messages)) one
              (subst (λ known. IsBroughtByUid r.highest known content) (sym (changes_are_applied o s.known r.rows (first_uid, content.next, uids_of s.up_to s.known content before)))
              (subst (λ (r : Readable). IsBroughtByUid r.highest (known_after o.expunges s.known r.rows) content) (sym read.is) brought));
        }

    noted_in_step : IsSelectedInStep world user (selection_after (selection_telling o r.rows r.highest s) s)
    noted_in_step = by (is_empty (difference o.expunges s.up_to s.known r.rows r.highest))
      where
        by : (none : Bool) → IsSelectedInStep world user (selection_after (cond none None (Some (difference o.expunges s.up_to s.known r.rows r.highest))) s)
        by true = h
        by false = told_in_step

  -- ---- what is left of the selected mailbox

  pub record IsLeft (s : Selection) (r : Readable) : Type 0 where
    pub readable : readable_in view s.name ≡ Some r
    pub same : r.validity ≡ s.validity

  pub left_is : (own : SessionState) (s : Selection) (r : Readable) → own.selected ≡ Some s → mailbox_left view own ≡ Some r → IsLeft s r
  left_is own s r selected left = by (readable_in view s.name) refl (sym (ap (λ o. cond (is_lost_selection view o) None (selected_mailbox view o)) selected) ∙ left)
    where
      if_kept : (m : Readable) → readable_in view s.name ≡ Some m → (b : Bool) → eqb m.validity s.validity ≡ b → cond (not b) None (Some m) ≡ Some r → IsLeft s r
      if_kept m is true same e =
          let one : m ≡ r = some_same m r e in
          let equal : m.validity ≡ s.validity = grind (arith, nat_tests, same) in
          record { readable = is ∙ ap Some one; same = sym (ap (λ (r : Readable). r.validity) one) ∙ equal }
      if_kept m is false same e = absurd (cc e)

      by : (found : Option Readable) → readable_in view s.name ≡ found → cond (has_other_validity s.validity found) None found ≡ Some r → IsLeft s r
      by None is e = absurd (cc e)
      by (Some m) is e = if_kept m is (eqb m.validity s.validity) refl e

-- ---- what an answer leaves of it

module _ (site : Site) (user : List ℕ) (world : World) (kept : AreKept world.mailboxes) (answer : Answer) (fit : IsFit (view_of site user world) answer) where
  abbrev pub after_answer : World
  after_answer = after_all (effects_of answer.effect) world

  pub kept_after_answer : AreKept after_answer.mailboxes
  kept_after_answer = all_stay_kept world (effects_of answer.effect ∷ []) (one_is_apart answer.effect, tt) kept

  viewed_after : view_of site user after_answer ≡ view_after_asking answer.effect (view_of site user world)
  viewed_after = after_asking site user world answer.effect kept (fit.asks (viewed site user world kept))

  not_bad : (own : SessionState) (bad : Bool) (r : Readable) → cond bad None (mailbox_left (view_after_asking answer.effect (view_of site user world)) own) ≡ Some r → mailbox_left (view_of site user after_answer) own ≡ Some r
  not_bad own true r is = absurd (cc is)
  not_bad own false r is = ap (λ view. mailbox_left view own) viewed_after ∙ is

  pub left_after_answer : (own : SessionState) (s : Selection) (r : Readable) → own.selected ≡ Some s → mailbox_after (view_of site user world) own answer ≡ Some r → IsLeft site user after_answer kept_after_answer s r
  left_after_answer own s r selected is = left_is site user after_answer kept_after_answer own s r selected (not_bad own (is_bad answer.last) r is)

-- ---- after a step

-- a session after what a step asks of it
abbrev pub session_with : SessionEffect → Option SessionState → Option SessionState
session_with session.Keep own = own
session_with session.Open own = Some new_session
session_with (session.Note more told) own = option_map (edited (session.Note more told)) own
session_with (session.Select more selection) own = option_map (edited (session.Select more selection)) own
session_with (session.Idle tag told) own = option_map (edited (session.Idle tag told)) own
session_with session.End own = None

same_number : (number : ℕ) → eqb number number ≡ true
same_number number = grind (arith, nat_tests)

put_there : (own : Own) (number : ℕ) (fresh : SessionState) → map.get (map.insert own number fresh) number ≡ Some fresh
put_there own number fresh = get-insert nat_cmp_total own number fresh number ∙ ap (λ b. cond b (Some fresh) (map.get own number)) (at_number number number ∙ same_number number)

edited_there : (own : Own) (number : ℕ) (change : SessionEffect) (there : Option SessionState) → map.get own number ≡ there → map.get (edited_if_open number change own there) number ≡ option_map (edited change) there
edited_there own number change None is = is
edited_there own number change (Some state) is = put_there own number (edited change state)

own_there : (own : Own) (number : ℕ) (change : SessionEffect) → map.get (own_with number change own) number ≡ session_with change (map.get own number)
own_there own number session.Keep = refl
own_there own number session.Open = put_there own number new_session
own_there own number (session.Note more told) = edited_there own number (session.Note more told) (map.get own number) refl
own_there own number (session.Select more selection) = edited_there own number (session.Select more selection) (map.get own number) refl
own_there own number (session.Idle tag told) = edited_there own number (session.Idle tag told) (map.get own number) refl
own_there own number session.End = get-remove nat_cmp_total own number number ∙ ap (λ b. cond b None (map.get own number)) (at_number number number ∙ same_number number)

pub session_there : (accounts : Accounts) (who : SessionId) (change : SessionEffect) (own : Own) → map.get accounts who.user ≡ Some own
    → session_at (accounts_after accounts who change) who.user who.number ≡ session_with change (map.get own who.number)
session_there accounts who change own is =
    ap (option_and_then (λ own. map.get own who.number)) (accounts_after_here accounts who change (Some own) is) ∙ own_there own who.number change

nobody_there : (accounts : Accounts) (who : SessionId) (change : SessionEffect) → map.get accounts who.user ≡ None → session_at (accounts_after accounts who change) who.user who.number ≡ None
nobody_there accounts who change is = ap (option_and_then (λ own. map.get own who.number)) (accounts_after_here accounts who change None is)

-- the acting session is in step after what a step asks of it
abbrev StaysInStep : World → (user : List ℕ) → SessionEffect → Option SessionState → Type 0
StaysInStep world user change own = (after : SessionState) → session_with change own ≡ Some after → IsInStep world user after.selected

-- with all others as they were
all_after : (world : World) (accounts : Accounts) (who : SessionId) (change : SessionEffect) → AreInStep world accounts
    → StaysInStep world who.user change (session_at accounts who.user who.number) → AreInStep world (accounts_after accounts who change)
all_after world accounts who change h own = record { at = λ user number state is. by user number state is (bytes_eq who.user user && eqb who.number number) refl }
  where
    here : (found : Option Own) → map.get accounts who.user ≡ found → StaysInStep world who.user change (option_and_then (λ own. map.get own who.number) found)
        → (state : SessionState) → session_at (accounts_after accounts who change) who.user who.number ≡ Some state → IsInStep world who.user state.selected
    here None is stays state there = absurd (cc (sym (nobody_there accounts who change is) ∙ there))
    here (Some found) is stays state there = stays state (sym (session_there accounts who change found is) ∙ there)

    at_own : (state : SessionState) → session_at (accounts_after accounts who change) who.user who.number ≡ Some state → IsInStep world who.user state.selected
    at_own state there = here (map.get accounts who.user) refl own state there

    by : (user : List ℕ) (number : ℕ) (state : SessionState) → session_at (accounts_after accounts who change) user number ≡ Some state
        → (b : Bool) → (bytes_eq who.user user && eqb who.number number) ≡ b → IsInStep world user state.selected
    by user number state there true same =
        let parts = both_true (bytes_eq who.user user) (eqb who.number number) same in
        let user_is : who.user ≡ user = (bytes_eq-Decides who.user user).0 parts.0 in
        let number_is : who.number ≡ number = grind (arith, nat_tests, parts.1) in
        subst (λ user. IsInStep world user state.selected) user_is
        (at_own state ((λ i. session_at (accounts_after accounts who change) (user_is i) (number_is i)) ∙ there))
    by user number state there false apart = h.at user number state (sym (sessions_apart accounts who change user number apart) ∙ there)

-- ---- by what comes of the step

-- the selected mailbox once the session is told
abbrev pub told_selection : Option Telling → Option Selection → Option Selection
told_selection None selected = selected
told_selection (Some told) selected = option_map (with_telling told) selected

module _ (world : World) (user : List ℕ) where
  opens : (own : Option SessionState) → StaysInStep world user session.Open own
  opens own after is = subst (λ (state : SessionState). IsInStep world user state.selected) (some_same new_session after is) tt

  closes : (own : Option SessionState) → StaysInStep world user session.End own
  closes own after is = absurd (cc is)

  selects : (more : EnabledCapabilities) (selection : Option Selection) → IsInStep world user selection → (own : Option SessionState) → StaysInStep world user (session.Select more selection) own
  selects more selection h None after is = absurd (cc is)
  selects more selection h (Some own) after is =
      subst (λ (state : SessionState). IsInStep world user state.selected) (some_same (edited (session.Select more selection) own) after is) h

  module _ (own : SessionState) where
    stays_there : IsInStep world user own.selected → StaysInStep world user session.Keep (Some own)
    stays_there h after is = subst (λ (state : SessionState). IsInStep world user state.selected) (some_same own after is) h

    notes : (more : EnabledCapabilities) (told : Option Telling) → IsInStep world user (told_selection told own.selected) → StaysInStep world user (session.Note more told) (Some own)
    notes more None h after is = subst (λ (state : SessionState). IsInStep world user state.selected) (some_same (edited (session.Note more None) own) after is) h
    notes more (Some told) h after is = subst (λ (state : SessionState). IsInStep world user state.selected) (some_same (edited (session.Note more (Some told)) own) after is) h

    idles : (tag : Option (List ℕ)) (told : Option Telling) → IsInStep world user (told_selection told own.selected) → StaysInStep world user (session.Idle tag told) (Some own)
    idles tag None h after is = subst (λ (state : SessionState). IsInStep world user state.selected) (some_same (edited (session.Idle tag None) own) after is) h
    idles tag (Some told) h after is = subst (λ (state : SessionState). IsInStep world user state.selected) (some_same (edited (session.Idle tag (Some told)) own) after is) h

    noting_stays : (more : EnabledCapabilities) (told : Option Telling) → IsInStep world user (told_selection told own.selected) → StaysInStep world user (noting more told) (Some own)
    noting_stays more None h = by (enables_nothing more)
      where
        by : (nothing : Bool) → StaysInStep world user (cond nothing session.Keep (session.Note more None)) (Some own)
        by true = stays_there h
        by false = notes more None h
    noting_stays more (Some told) h = notes more (Some told) h

module _ (site : Site) (user : List ℕ) (world : World) (sound : IsSound world) (kept : AreKept world.mailboxes) where
  abbrev seen : View
  seen = view_of site user world

  abbrev Keeps : Option SessionState → Outcome → Type 0
  Keeps own outcome = StaysInStep (after_all (effects_of outcome.effect) world) user outcome.session own

  -- ---- of an open session

  module _ (own : SessionState) (h : IsInStep world user own.selected) where
    after_asked : (asked : Option Effect) → IsInStep (after_all (effects_of asked) world) user own.selected
    after_asked asked = stays world (after_all (effects_of asked) world) (grown_by world kept asked) user own.selected h

    says_nothing : (replies : List Response) → Keeps (Some own) (said replies session.Keep)
    says_nothing replies = stays_there world user own h

    keeps : (answer : Answer) → Keeps (Some own) (answered answer session.Keep)
    keeps answer = stays_there (after_all (effects_of answer.effect) world) user own (after_asked answer.effect)

    told_of_mailbox : (after : World) (kept_after : AreKept after.mailboxes) (o : NoticeOptions) (selected : Option Selection) → IsInStep after user selected → (mailbox : Option Readable)
        → ((s : Selection) (r : Readable) → selected ≡ Some s → mailbox ≡ Some r → IsLeft site user after kept_after s r)
        → IsInStep after user (told_selection (notice_telling o selected mailbox) selected)
    told_of_mailbox after kept_after o selected step None left = step
    told_of_mailbox after kept_after o None step (Some r) left = tt
    told_of_mailbox after kept_after o (Some s) step (Some r) left =
        let is = left s r refl refl in
        by (is_empty (difference o.expunges s.up_to s.known r.rows r.highest)) (noted_in_step site user after kept_after o s r is.readable is.same step)
      where
        by : (none : Bool) → IsSelectedInStep after user (selection_after (cond none None (Some (difference o.expunges s.up_to s.known r.rows r.highest))) s)
            → IsInStep after user (told_selection (cond none None (Some (difference o.expunges s.up_to s.known r.rows r.highest))) (Some s))
        by true h = h
        by false h = h

    notices_keep : (expunges : Bool) (answer : Answer) → IsFit seen answer → Keeps (Some own) (with_notices seen own expunges answer)
    notices_keep expunges answer fit =
        let o = options_after expunges own answer in
        let after = after_answer site user world kept answer fit in
        noting_stays after user own answer.enables (notice_telling o own.selected (mailbox_after seen own answer))
        (told_of_mailbox after (kept_after_answer site user world kept answer fit) o own.selected (after_asked answer.effect) (mailbox_after seen own answer)
        (λ s r selected is. left_after_answer site user world kept answer fit own s r selected is))

    answer_keeps : (expunges : Bool) (answer : Answer) → IsFit seen answer → Keeps (Some own) (outcome_of_answer seen own expunges answer)
    answer_keeps expunges answer fit = by (newly_enables_condstore own answer)
      where
        by : (b : Bool) → Keeps (Some own) (with_notices seen own expunges (cond b (preceded_by (highest_line (selected_mailbox seen own.selected)) answer) answer))
        by true = notices_keep expunges (preceded_by (highest_line (selected_mailbox seen own.selected)) answer) (highest_fits seen None 0 act.Poll answer fit (selected_mailbox seen own.selected))
        by false = notices_keep expunges answer fit

    -- ---- IDLE

    idle_keeps : (step : Idling) → Keeps (Some own) (idle_outcome seen own step)
    idle_keeps step = by step
      where
        told : IsInStep world user (told_selection (idle_telling seen own) own.selected)
        told = told_of_mailbox world kept (notice_options true own.enabled) own.selected h (mailbox_left seen own) (λ s r selected is. left_is site user world kept own s r selected is)

        by : (step : Idling) → Keeps (Some own) (idle_outcome seen own step)
        by (idling.Begins tag) = idles world user own (Some tag) (idle_telling seen own) told
        by idling.Polls = noting_stays world user own nothing_enabled (idle_telling seen own) told
        by (idling.Ends tag) = idles world user own None (idle_telling seen own) told

    -- ---- mailboxes that are selected

    selects_none : (answer : Answer) (more : EnabledCapabilities) → Keeps (Some own) (answered answer (session.Select more None))
    selects_none answer more = selects (after_all (effects_of answer.effect) world) user more None tt (Some own)

    module _ (parameters : SelectParameters) (lines : List Response) (tag : List ℕ) (read_only : Bool) where
      selecting_keeps : (name : Name) (found : Option Readable) → readable_in seen name ≡ found
          → Keeps (Some own) (outcome_of_selecting (with_lines parameters lines (select_if_readable seen own tag read_only name found)))
      selecting_keeps name None is =
          let answer = (with_lines parameters lines (select_if_readable seen own tag read_only name None)).answer in
          selects_none answer answer.enables
      selecting_keeps name (Some mailbox) is =
          let answer = (with_lines parameters lines (select_if_readable seen own tag read_only name (Some mailbox))).answer in
          selects world user answer.enables (Some (selected_as name read_only mailbox)) (selects_in_step site user world kept sound name read_only mailbox is) (Some own)

      named_keeps : (name : Option Name) → Keeps (Some own) (outcome_of_selecting (with_lines parameters lines (select_if_named seen own tag read_only name)))
      named_keeps None =
          let answer = (with_lines parameters lines (select_if_named seen own tag read_only None)).answer in
          selects_none answer answer.enables
      named_keeps (Some name) = selecting_keeps name (readable_in seen name) refl

    select_keeps : (tag : List ℕ) (read_only : Bool) (mailbox : List ℕ) (parameters : SelectParameters) → Keeps (Some own) (select_outcome seen own tag read_only mailbox parameters)
    select_keeps tag read_only mailbox parameters = by (is_malformed own.enabled parameters)
      where
        by : (b : Bool) → Keeps (Some own) (cond b (answered (refusal tag Malformed) session.Keep) (outcome_of_selecting (select_with_parameters seen own tag read_only mailbox parameters)))
        by true = keeps (refusal tag Malformed)
        by false = named_keeps parameters (lines_if_asked seen mailbox parameters.qresync) tag read_only (name_of_text seen mailbox)

    unselect_keeps : (tag : List ℕ) → Keeps (Some own) (unselect_outcome own tag)
    unselect_keeps tag = by own.selected
      where
        by : (selected : Option Selection) → Keeps (Some own) (if_selected selected tag (answered (done tag) (session.Select nothing_enabled None)))
        by None = keeps (refusal tag WrongState)
        by (Some s) = selects_none (done tag) nothing_enabled

    close_keeps : (tag : List ℕ) → Keeps (Some own) (close_outcome seen own tag)
    close_keeps tag = by own.selected
      where
        by : (selected : Option Selection) → Keeps (Some own) (if_selected selected tag (answered (close_answer seen own tag) (session.Select nothing_enabled None)))
        by None = keeps (refusal tag WrongState)
        by (Some s) = selects_none (close_answer seen own tag) nothing_enabled

    -- ---- commands and acts

    command_keeps : (tag : List ℕ) (at : Moment) (asked : Command) → Keeps (Some own) (command_outcome seen own tag at asked)
    command_keeps tag at command.Logout = closes world user (Some own)
    command_keeps tag at (command.Select mailbox parameters) = select_keeps tag false mailbox parameters
    command_keeps tag at (command.Examine mailbox parameters) = select_keeps tag true mailbox parameters
    command_keeps tag at command.Close = close_keeps tag
    command_keeps tag at command.Unselect = unselect_keeps tag
    command_keeps tag at command.Idle = idle_keeps (idling.Begins tag)
    command_keeps tag at asked = answer_keeps (may_tell_expunges asked) (command_answer seen own tag at asked) (command_fits seen own tag at asked)

    request_keeps : (at : Moment) (asked : Request) → Keeps (Some own) (request_outcome seen own at asked)
    request_keeps at (request.Command tag asked) = command_keeps tag at asked
    request_keeps at (request.Malformed tag) = says_nothing (response.Refused tag Malformed ∷ [])
    request_keeps at (request.TooBig tag) = says_nothing (response.Refused (Some tag) Limit ∷ [])

    unless_lost_keeps : (is : Bool) (outcome : Outcome) → Keeps (Some own) outcome → Keeps (Some own) (unless_lost is outcome)
    unless_lost_keeps true outcome h = closes world user (Some own)
    unless_lost_keeps false outcome h = h

    act_keeps : (at : Moment) (what : Act) → Keeps (Some own) (reply_when_open seen own at what)
    act_keeps at act.Open = opens world user (Some own)
    act_keeps at act.Leave = closes world user (Some own)
    act_keeps at (act.Do asked) = unless_lost_keeps (is_lost seen own) (reply_by_idle seen own at (act.Do asked) own.idle) (by own.idle)
      where
        by : (idle : Option (List ℕ)) → Keeps (Some own) (reply_by_idle seen own at (act.Do asked) idle)
        by None = request_keeps at asked
        by (Some tag) = idles world user own None None h
    act_keeps at act.Poll = unless_lost_keeps (is_lost seen own) (reply_by_idle seen own at act.Poll own.idle) (by own.idle)
      where
        by : (idle : Option (List ℕ)) → Keeps (Some own) (reply_by_idle seen own at act.Poll idle)
        by None = says_nothing []
        by (Some tag) = idle_keeps idling.Polls
    act_keeps at act.Done = unless_lost_keeps (is_lost seen own) (reply_by_idle seen own at act.Done own.idle) (by own.idle)
      where
        by : (idle : Option (List ℕ)) → Keeps (Some own) (reply_by_idle seen own at act.Done idle)
        by None = says_nothing (response.Refused None Malformed ∷ [])
        by (Some tag) = idle_keeps (idling.Ends tag)

  -- ---- of a session that is not open

  none_keeps : (replies : List Response) → Keeps None (said replies session.Keep)
  none_keeps replies after is = absurd (cc is)

  closed_keeps : (own : Own) (what : Act) → Keeps None (reply_when_closed own what)
  closed_keeps own act.Open = by (nat_le max_sessions (map.len own))
    where
      by : (full : Bool) → Keeps None (cond full (said (response.Bye LimitReached ∷ []) session.Keep) opened)
      by true = none_keeps (response.Bye LimitReached ∷ [])
      by false = opens world user None
  closed_keeps own (act.Do asked) = none_keeps []
  closed_keeps own act.Poll = none_keeps []
  closed_keeps own act.Done = none_keeps []
  closed_keeps own act.Leave = none_keeps []

  session_keeps : (own : Own) (step : Step) (active : Option SessionState) → ((state : SessionState) → active ≡ Some state → IsInStep world user state.selected) → Keeps active (reply_by_session seen own step active)
  session_keeps own step None held = closed_keeps own step.act
  session_keeps own step (Some active) held = act_keeps active (held active refl) step.at step.act

  reply_keeps : (own : Option Own) (step : Step) → ((state : SessionState) → option_and_then (λ own. map.get own step.who.number) own ≡ Some state → IsInStep world user state.selected)
      → Keeps (option_and_then (λ own. map.get own step.who.number) own) (outcome_for seen own step)
  reply_keeps None step held = none_keeps []
  reply_keeps (Some own) step held = session_keeps own step (map.get own step.who.number) held

pub all_stay_in_step : SessionsStayInStep
all_stay_in_step state step h =
    let asked = (outcome state step).effect in
    let after = after_all (effects_of asked) state.world in
    let own = own_in state step.who.user in
    record {
      sound = steps_stay_sound state.world (effects_of asked ∷ []) (one_is_apart asked, tt) h.sound;
      messages = kept_next state step h.messages;
      sessions = all_after after state.accounts step.who (outcome state step).session (all_stay state.world after state.accounts (grown_by state.world h.messages asked) h.sessions)
          (reply_keeps state.site step.who.user state.world h.sound h.messages own step (λ active is. h.sessions.at step.who.user step.who.number active is));
    }
