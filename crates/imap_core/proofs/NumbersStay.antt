-- FETCH, STORE and SEARCH by number tell of no message that is gone.
use Rattle.std.proofs.Common.{◌≡◌, ℕ, Bool, true, false, cond, not, ◌&&◌, ◌||◌, List, [], ◌∷◌, Option, Some, None, refl, ap, ◌∙◌}
use Rattle.std.specs.List.{list_any}
use Rattle.std.specs.FinMap as map
use Rattle.imap_answer.specs.Answer.{Answer, done_line, lines_of, preceded_by, refusal}
use Rattle.imap_answer.proofs.Fits.{any_followed, any_preceded}
use Rattle.imap_changes.proofs.StorePasses.{store_passes}
use Rattle.imap_changes.specs.Store.{StoreArguments, store_answer}
use Rattle.imap_commands.specs.declared.command.Command.{Command}
use Rattle.imap_commands.specs.declared.command.Command.TheVariants as command
use Rattle.imap_commands.specs.declared.request.Request.TheVariants as request
use Rattle.imap_messages.specs.Changed.{changed_of, fetched_set, vanished_lines}
use Rattle.imap_messages.specs.Fetch as fetch
use Rattle.imap_messages.specs.Fetch.{FetchArguments, fetch_answer, fetch_changed, fetch_if_readable, fetch_if_selected, fetch_read, sets_seen, wanted_by}
use Rattle.imap_messages.proofs.Fitting as messages
use Rattle.imap_names.specs.Name.{Name}
use Rattle.imap_print.specs.declared.enabled.EnabledCapabilities.{EnabledCapabilities}
use Rattle.imap_print.specs.declared.response.Refusal.TheVariants.{BadCharset, Cannot, ExpungeIssued, Malformed}
use Rattle.imap_print.specs.declared.response.Response.TheVariants as response
use Rattle.imap_search.specs.Search as search
use Rattle.imap_search.specs.Search.{SearchArguments, is_known_charset, search_answer, search_if_readable, search_if_selected}
use Rattle.imap_session.specs.Lost.{is_lost}
use Rattle.imap_session.specs.State.{Selection, SessionState}
use Rattle.imap_sessions.specs.Notices.{mailbox_after, may_tell_expunges, notice_lines, options_after, selected_mailbox}
use Rattle.imap_sessions.specs.Sessions.{Own}
use Rattle.imap_syntax.specs.declared.set.MessageSet.{MessageSet}
use Rattle.imap_syntax.specs.Moments.{Moment}
use Rattle.imap_targets.specs.declared.message_numbers.Numbered.{Numbered}
use Rattle.imap_targets.specs.MessageNumbers.{is_by_uid, is_refused, ranges_of}
use Rattle.imap_view.specs.declared.readable.Readable.{Readable}
use Rattle.imap_view.specs.Readable.{readable_in}
use Rattle.imap_view.specs.View.{View}
use Rattle.imap_core.specs.declared.step.Act.{Act}
use Rattle.imap_core.specs.declared.step.Act.TheVariants as act
use Rattle.imap_core.specs.declared.step.Step.{Step}
use Rattle.imap_core.specs.Answers.{command_answer}
use Rattle.imap_core.specs.Laws.{NumbersStay, is_by_number, names_numbers, tells_of_expunge}
use Rattle.imap_core.specs.Machine.{outcome_for, own_in, view_in}
use Rattle.imap_core.specs.Reply.{command_outcome, highest_line, newly_enables_condstore, outcome_of_answer, reply_by_idle, reply_by_session, reply_when_open, unless_lost, with_notices}
use Rattle.imap_core.proofs.Noticed.{no_line_held_back}

abbrev IsSilent : Answer → Type 0
IsSilent answer = list_any tells_of_expunge (lines_of answer) ≡ false

not_false : (b : Bool) → not b ≡ true → b ≡ false
not_false true e = absurd (cc e)
not_false false e = refl

-- ---- notices

module _ (view : View) (own : SessionState) where
  with_notices_silent : (answer : Answer) → IsSilent answer → list_any tells_of_expunge (with_notices view own false answer).replies ≡ false
  with_notices_silent answer silent =
      let o = options_after false own answer in
      let lines = notice_lines o answer.told own.selected (mailbox_after view own answer) in
      any_followed tells_of_expunge lines answer (no_line_held_back tells_of_expunge (λ n. refl) (λ n items. refl) o refl answer.told own.selected (mailbox_after view own answer))
      ∙ silent

  highest_silent : (mailbox : Option Readable) (answer : Answer) → IsSilent answer → IsSilent (preceded_by (highest_line mailbox) answer)
  highest_silent None answer silent = any_preceded tells_of_expunge [] answer refl ∙ silent
  highest_silent (Some mailbox) answer silent = any_preceded tells_of_expunge (response.HighestModSeq mailbox.highest ∷ []) answer refl ∙ silent

  outcome_silent : (expunges : Bool) → expunges ≡ false → (answer : Answer) → IsSilent answer → list_any tells_of_expunge (outcome_of_answer view own expunges answer).replies ≡ false
  outcome_silent true may answer silent = absurd (cc may)
  outcome_silent false may answer silent = by (newly_enables_condstore own answer)
    where
      by : (b : Bool) → list_any tells_of_expunge (with_notices view own false (cond b (preceded_by (highest_line (selected_mailbox view own.selected)) answer) answer)).replies ≡ false
      by true = with_notices_silent (preceded_by (highest_line (selected_mailbox view own.selected)) answer) (highest_silent (selected_mailbox view own.selected) answer silent)
      by false = with_notices_silent answer silent

-- ---- FETCH

-- VANISHED is for UID FETCH
not_asked : (vanished asks others : Bool) → asks ≡ false → ((vanished && not asks) || others) ≡ false → vanished ≡ false
not_asked false asks others may e = refl
not_asked true true others may e = absurd (cc may)
not_asked true false others may e = absurd (cc e)

not_by_uid : (qresync by since : Bool) → by ≡ false → (qresync && (by && since)) ≡ false
not_by_uid false by since e = refl
not_by_uid true true since e = absurd (cc e)
not_by_uid true false since e = refl

vanished_silent : (view : View) (name : Name) (asked : Bool) → asked ≡ false → (since : Option ℕ) (messages : MessageSet) (next : ℕ)
    → list_any tells_of_expunge (vanished_lines view name asked since (fetched_set (ranges_of messages) next)) ≡ false
vanished_silent view name true e since messages next = absurd (cc e)
vanished_silent view name false e None messages next = refl
vanished_silent view name false e (Some since) messages next = refl

module _ (view : View) (tag : List ℕ) (enabled : EnabledCapabilities) (arguments : FetchArguments) (s : Selection) where
  read_silent : (mailbox : Readable) (named : List Numbered) → IsSilent (fetch_read view enabled tag arguments s mailbox named)
  read_silent mailbox named =
      messages.lines_pass tells_of_expunge (λ number items. refl) (wanted_by enabled arguments) (sets_seen view s arguments) mailbox.rows mailbox.highest mailbox.own named (done_line tag ∷ [])

  messages_silent : arguments.vanished ≡ false → (mailbox : Readable) (named : List Numbered) (refused : Bool)
      → IsSilent (cond refused (refusal tag ExpungeIssued) (fetch_changed view enabled tag arguments s mailbox named))
  messages_silent unasked mailbox named true = refl
  messages_silent unasked mailbox named false =
      let uids = fetched_set (ranges_of arguments.messages) mailbox.next_uid in
      let changed = changed_of arguments.changed_since mailbox.rows named in
      any_preceded tells_of_expunge (vanished_lines view s.name arguments.vanished arguments.changed_since uids) (fetch_read view enabled tag arguments s mailbox changed)
      (vanished_silent view s.name arguments.vanished unasked arguments.changed_since arguments.messages mailbox.next_uid)
      ∙ read_silent mailbox changed

  readable_silent : arguments.vanished ≡ false → (mailbox : Option Readable) → IsSilent (fetch_if_readable view enabled tag arguments s mailbox)
  readable_silent unasked None = refl
  readable_silent unasked (Some mailbox) =
      let named = fetch.messages_of arguments s.known mailbox in
      messages_silent unasked mailbox named (is_refused (is_by_uid arguments.numbering) mailbox.rows named)

  selected_silent : (malformed impossible : Bool) → (malformed ≡ false → arguments.vanished ≡ false)
      → IsSilent (cond malformed (refusal tag Malformed) (cond impossible (refusal tag Cannot) (fetch_if_readable view enabled tag arguments s (readable_in view s.name))))
  selected_silent true impossible unasked = refl
  selected_silent false true unasked = refl
  selected_silent false false unasked = readable_silent (unasked refl) (readable_in view s.name)

fetch_silent : (view : View) (own : SessionState) (tag : List ℕ) (arguments : FetchArguments) → is_by_uid arguments.numbering ≡ false → IsSilent (fetch_answer view own tag arguments)
fetch_silent view own tag arguments by_number = by own.selected
  where
    by : (selected : Option Selection) → IsSilent (fetch_if_selected view own.enabled tag arguments selected)
    by None = refl
    by (Some s) =
        selected_silent view tag own.enabled arguments s (fetch.is_malformed own.enabled _ arguments) (fetch.is_impossible arguments)
        (not_asked arguments.vanished (fetch.may_ask_vanished own.enabled arguments) _ (not_by_uid own.enabled.qresync (is_by_uid arguments.numbering) _ by_number))

-- ---- SEARCH

module _ (view : View) (tag : List ℕ) (arguments : SearchArguments) where
  found_silent : (s : Selection) (mailbox : Option Readable) → IsSilent (search_if_readable tag arguments s mailbox)
  found_silent s None = refl
  found_silent s (Some mailbox) = refl

  found_by : (s : Selection) (malformed charset impossible : Bool)
      → IsSilent (cond malformed (refusal tag Malformed) (cond (not charset) (refusal tag BadCharset) (cond impossible (refusal tag Cannot) (search_if_readable tag arguments s (readable_in view s.name)))))
  found_by s true charset impossible = refl
  found_by s false false impossible = refl
  found_by s false true true = refl
  found_by s false true false = found_silent s (readable_in view s.name)

search_silent : (view : View) (own : SessionState) (tag : List ℕ) (arguments : SearchArguments) → IsSilent (search_answer view own tag arguments)
search_silent view own tag arguments = by own.selected
  where
    by : (selected : Option Selection) → IsSilent (search_if_selected view tag arguments selected)
    by None = refl
    by (Some s) = found_by view tag arguments s (search.is_malformed _ arguments.keys) (is_known_charset arguments.charset) (search.is_impossible arguments)

-- ---- a step

module _ (view : View) (own : SessionState) (at : Moment) where
  command_silent : (tag : List ℕ) (asked : Command) → names_numbers asked ≡ true → list_any tells_of_expunge (command_outcome view own tag at asked).replies ≡ false
  command_silent tag (command.Fetch numbering named items since vanished) is =
      let by_number = not_false (is_by_uid numbering) is in
      let arguments : FetchArguments = record { numbering = numbering; messages = named; items = items; changed_since = since; vanished = vanished } in
      outcome_silent view own (is_by_uid numbering) by_number (fetch_answer view own tag arguments) (fetch_silent view own tag arguments by_number)
  command_silent tag (command.Search numbering returns charset keys) is =
      let by_number = not_false (is_by_uid numbering) is in
      let arguments : SearchArguments = record { numbering = numbering; returns = returns; charset = charset; keys = keys } in
      outcome_silent view own (is_by_uid numbering) by_number (search_answer view own tag arguments) (search_silent view own tag arguments)
  command_silent tag (command.Store numbering named store) is =
      let by_number = not_false (is_by_uid numbering) is in
      let arguments : StoreArguments = record { numbering = numbering; messages = named; spec = store } in
      outcome_silent view own (is_by_uid numbering) by_number (store_answer view own tag arguments)
      (store_passes tells_of_expunge (λ number items. refl) (λ tag reason. refl) (λ tag code. refl) view own tag arguments)
  command_silent tag _ is = absurd (cc is)

  idle_silent : (tag : List ℕ) (asked : Command) → names_numbers asked ≡ true → (idle : Option (List ℕ)) → list_any tells_of_expunge (reply_by_idle view own at (act.Do (request.Command tag asked)) idle).replies ≡ false
  idle_silent tag asked is None = command_silent tag asked is
  idle_silent tag asked is (Some idle) = refl

  lost_silent : (tag : List ℕ) (asked : Command) → names_numbers asked ≡ true → (lost : Bool)
      → list_any tells_of_expunge (unless_lost lost (reply_by_idle view own at (act.Do (request.Command tag asked)) own.idle)).replies ≡ false
  lost_silent tag asked is true = refl
  lost_silent tag asked is false = idle_silent tag asked is own.idle

  open_silent : (what : Act) → is_by_number what ≡ true → list_any tells_of_expunge (reply_when_open view own at what).replies ≡ false
  open_silent (act.Do (request.Command tag asked)) is = lost_silent tag asked is (is_lost view own)
  open_silent (act.Do (request.Malformed tag)) is = absurd (cc is)
  open_silent (act.Do (request.TooBig tag)) is = absurd (cc is)
  open_silent act.Open is = absurd (cc is)
  open_silent act.Poll is = absurd (cc is)
  open_silent act.Done is = absurd (cc is)
  open_silent act.Leave is = absurd (cc is)

session_silent : (view : View) (own : Own) (who at : _) (what : Act) → is_by_number what ≡ true → (active : Option SessionState)
    → list_any tells_of_expunge (reply_by_session view own (record { who = who; at = at; act = what }) active).replies ≡ false
session_silent view own who at (act.Do asked) is None = refl
session_silent view own who at act.Open is None = absurd (cc is)
session_silent view own who at act.Poll is None = refl
session_silent view own who at act.Done is None = refl
session_silent view own who at act.Leave is None = refl
session_silent view own who at what is (Some active) = open_silent view active at what is

pub numbers_stay : NumbersStay
numbers_stay state step is = by (own_in state step.who.user)
  where
    by : (own : Option Own) → list_any tells_of_expunge (outcome_for (view_in state step.who.user) own step).replies ≡ false
    by None = refl
    by (Some own) = session_silent (view_in state step.who.user) own step.who step.at step.act is (map.get own step.who.number)
