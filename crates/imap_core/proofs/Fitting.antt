-- What holds of what comes of a step: what it asks for may be asked for by its user, there is room for the session that
-- it opens, a refusal changes nothing, and none is UNAVAILABLE.
use Rattle.std.proofs.Common.{◌≡◌, ℕ, Bool, true, false, cond, List, [], ◌∷◌, ◌++◌, ◌⊎◌, ◌||◌, Option, Some, None, is_some, inl, inr, refl, sym, ap, subst, ◌∙◌, true≢false}
use Rattle.std.specs.Prelude.{nat_le, option_and_then}
use Rattle.std.proofs.lemmas.List.Folds.{list_any-append}
use Rattle.std.proofs.lemmas.Bool.{leb-false}
use Rattle.std.specs.List.{list_any}
use Rattle.std.specs.FinMap as map
use Rattle.imap_answer.specs.Alike.{view_after_asking}
use Rattle.imap_answer.specs.Answer.{Answer, carried_out, done, done_line, followed_by, lines_of, nothing_enabled, preceded_by, refusal}
use Rattle.imap_answer.specs.Fit.{IsFit, IsViewed, MayBeAsked, is_refusal, is_unavailable}
use Rattle.imap_answer.proofs.Fits.{fits_alone, fits_enabling, fits_followed, fits_preceded}
use Rattle.imap_commands.specs.declared.request.Request.{Request}
use Rattle.imap_commands.specs.declared.request.Request.TheVariants as request
use Rattle.imap_commands.specs.declared.command.Command.{Command}
use Rattle.imap_commands.specs.declared.command.Command.TheVariants as command
use Rattle.imap_changes.specs.Expunge.{close_answer, close_if_selected}
use Rattle.imap_changes.proofs.Fitting as changes
use Rattle.imap_changes.proofs.StoreFitting as storing
use Rattle.imap_changes.proofs.TransferFitting as copies
use Rattle.imap_changes.specs.declared.transfer_kind.TransferKind.TheVariants as transfer
use Rattle.imap_list.proofs.Fitting as list
use Rattle.imap_messages.proofs.Fitting as messages
use Rattle.imap_search.proofs.Fitting.{search_fits}
use Rattle.imap_syntax.specs.Moments.{Moment}
use Rattle.imap_print.specs.declared.enabled.EnabledCapabilities.{EnabledCapabilities}
use Rattle.imap_print.specs.declared.fetch.FetchedItems.{FetchedItems}
use Rattle.imap_print.specs.declared.response.Farewell.TheVariants.{LimitReached}
use Rattle.imap_print.specs.declared.response.Response.{Response}
use Rattle.imap_print.specs.declared.response.Response.TheVariants as response
use Rattle.imap_session.specs.declared.options.NoticeOptions.{NoticeOptions}
use Rattle.imap_session.specs.Lost.{is_lost}
use Rattle.imap_session.specs.declared.select.Selecting.{Selecting}
use Rattle.imap_messages.proofs.SelectFitting as resync
use Rattle.imap_messages.specs.Select.{is_malformed, select_with_parameters}
use Rattle.imap_session.specs.State.{Selection, SessionState, both_enabled, selected_name}
use Rattle.imap_tree.proofs.Fitting as tree
use Rattle.imap_print.specs.declared.response.Refusal.TheVariants.{Malformed, WrongState}
use Rattle.imap_commands.specs.declared.commands.select.SelectParameters.{SelectParameters}
use Rattle.imap_view.specs.declared.readable.Readable.{Readable}
use Rattle.imap_view.specs.View.{View}
use Rattle.imap_core.specs.declared.idling.Idling.{Idling}
use Rattle.imap_core.specs.declared.idling.Idling.TheVariants as idling
use Rattle.imap_sessions.specs.declared.sessions.SessionEffect.{SessionEffect}
use Rattle.imap_sessions.specs.declared.sessions.SessionEffect.TheVariants as session
use Rattle.imap_core.specs.declared.step.Act.{Act}
use Rattle.imap_core.specs.declared.step.Act.TheVariants as act
use Rattle.imap_core.specs.declared.step.Step.{Step}
use Rattle.imap_core.specs.Machine.{outcome_for}
use Rattle.imap_core.specs.Outcome.{Outcome, answered, said}
use Rattle.imap_sessions.specs.Planned.{MayOpen}
use Rattle.imap_core.specs.Commands.Session.{enabled_by_names, named_by}
use Rattle.imap_core.specs.Laws.{IsToldInLines, is_idling, is_line, selects}
use Rattle.imap_sessions.specs.Notices.{enables_nothing, idle_lines, idle_telling, is_bad, mailbox_after, mailbox_left, may_tell_expunges, notice_lines, notice_options, notice_telling, noting, options_after, selected_mailbox}
use Rattle.imap_core.specs.Answers.{command_answer}
use Rattle.imap_core.specs.Reply.{command_outcome, highest_line, idle_outcome, if_selected, kept, newly_enables_condstore, opened, outcome_of_answer, outcome_of_selecting, reply_by_idle, reply_by_session, reply_when_closed, reply_when_open, request_outcome}
use Rattle.imap_core.specs.Reply.{select_outcome, unless_lost, unselect_outcome, close_outcome, with_notices}
use Rattle.imap_core.proofs.Noticed.{no_line_refuses}
use Rattle.imap_session.specs.Telling.{Telling}
use Rattle.imap_sessions.specs.Sessions.{Own, max_sessions}

-- nothing is asked for, and the session stays
pub record IsUnchanged (outcome : Outcome) : Type 0 where
  pub session : outcome.session ≡ session.Keep
  pub effect : outcome.effect ≡ None

-- the session of the number, if it is open
abbrev pub active_of : Option Own → ℕ → Option SessionState
active_of own number = option_and_then (λ own. map.get own number) own

-- what a session is told, if it is told anything, is in the lines
abbrev pub IsTied : View → List Response → Option Telling → Option SessionState → Type 0
IsTied view replies None active = Unit {0}
IsTied view replies (Some told) None = ⊥
IsTied view replies (Some told) (Some active) = IsToldInLines view active replies told

-- a session that is told of its mailbox by lines, and notes nothing else
pub record OnlyNotes (view : View) (active : Option SessionState) (outcome : Outcome) : Type 0 where
  pub told : Option Telling
  pub is : outcome.session ≡ noting nothing_enabled told
  pub lines : IsTied view outcome.replies told active

-- a line ends the IDLE of its session
pub record BreaksIdle (own : Option Own) (number : ℕ) (what : Act) (effect : SessionEffect) : Type 0 where
  pub idles : is_idling (active_of own number) ≡ true
  pub line : is_line what ≡ true
  pub is : effect ≡ session.Idle None None

-- nothing is asked for; and the session notes what it is told, has no mailbox selected after SELECT or EXAMINE, or
-- idles no more
pub record IsRefused (view : View) (own : Option Own) (number : ℕ) (what : Act) (outcome : Outcome) : Type 0 where
  pub session : OnlyNotes view (active_of own number) outcome ⊎ (((selects what ≡ true) × (outcome.session ≡ session.Select nothing_enabled None)) ⊎ BreaksIdle own number what outcome.session)
  pub effect : outcome.effect ≡ None

pub record Fits (view : View) (own : Option Own) (number : ℕ) (what : Act) (outcome : Outcome) : Type 0 where
  pub asks : IsViewed view → MayBeAsked view outcome.effect
  pub room : MayOpen own number outcome.session
  pub refused : list_any is_refusal outcome.replies ≡ true → IsRefused view own number what outcome
  pub available : list_any is_unavailable outcome.replies ≡ false

room_to_keep : (own : Option Own) (number : ℕ) → MayOpen own number session.Keep
room_to_keep None number = tt
room_to_keep (Some own) number = tt

room_to_note : (own : Option Own) (number : ℕ) (more : EnabledCapabilities) (told : Option Telling) → MayOpen own number (session.Note more told)
room_to_note None number more told = tt
room_to_note (Some own) number more told = tt

room_to_select : (own : Option Own) (number : ℕ) (more : EnabledCapabilities) (selection : Option Selection) → MayOpen own number (session.Select more selection)
room_to_select None number more selection = tt
room_to_select (Some own) number more selection = tt

room_to_idle : (own : Option Own) (number : ℕ) (tag : Option (List ℕ)) (told : Option Telling) → MayOpen own number (session.Idle tag told)
room_to_idle None number tag told = tt
room_to_idle (Some own) number tag told = tt

room_to_end : (own : Option Own) (number : ℕ) → MayOpen own number session.End
room_to_end None number = tt
room_to_end (Some own) number = tt

module _ (view : View) (own : Option Own) (number : ℕ) (what : Act) where
  room_noting : (enables : EnabledCapabilities) (told : Option Telling) → MayOpen own number (noting enables told)
  room_noting enables None = by (enables_nothing enables)
    where
      by : (nothing : Bool) → MayOpen own number (cond nothing session.Keep (session.Note enables None))
      by true = room_to_keep own number
      by false = room_to_note own number enables None
  room_noting enables (Some told) = room_to_note own number enables (Some told)

  stays : (outcome : Outcome) → outcome.session ≡ session.Keep → OnlyNotes view (active_of own number) outcome
  stays outcome is = record { told = None; is = is; lines = tt }

  -- an answer, with lines before its last one and what its session notes of it
  noted_fits : (answer : Answer) (lines : List Response) (told : Option Telling) → list_any is_refusal lines ≡ false → list_any is_unavailable lines ≡ false → IsFit view answer
      → (answer.effect ≡ None → answer.enables ≡ nothing_enabled → answer.told ≡ [] → IsTied view (lines_of (followed_by lines answer)) told (active_of own number))
      → Fits view own number what (answered (followed_by lines answer) (noting answer.enables told))
  noted_fits answer lines told refuses unavailable fit tied =
      let more = fits_followed view lines answer refuses unavailable fit in
      record {
        asks = more.asks;
        room = room_noting answer.enables told;
        refused = λ e. record {
          session = inl (record {
            told = told;
            is = ap (λ enables. noting enables told) (more.refused e).1;
            lines = tied (more.refused e).0 (more.refused e).1 (more.refused e).2;
          });
          effect = (more.refused e).0;
        };
        available = more.available;
      }

  kept_fits : (answer : Answer) → IsFit view answer → Fits view own number what (kept answer)
  kept_fits answer fit = record {
    asks = fit.asks;
    room = room_to_keep own number;
    refused = λ e. record { session = inl (stays (kept answer) refl); effect = (fit.refused e).0 };
    available = fit.available;
  }

  pub highest_fits : (answer : Answer) → IsFit view answer → (mailbox : Option Readable) → IsFit view (preceded_by (highest_line mailbox) answer)
  highest_fits answer fit None = fits_preceded view [] answer refl refl fit
  highest_fits answer fit (Some mailbox) = fits_preceded view (response.HighestModSeq mailbox.highest ∷ []) answer refl refl fit

  -- notices after a refusal are those of the view before
  notices_tied : (active : SessionState) (expunges : Bool) (answer : Answer) → answer.effect ≡ None → answer.enables ≡ nothing_enabled → answer.told ≡ []
      → IsTied view (lines_of (followed_by (notice_lines (options_after expunges active answer) answer.told active.selected (mailbox_after view active answer)) answer))
      (notice_telling (options_after expunges active answer) active.selected (mailbox_after view active answer)) (Some active)
  notices_tied active expunges answer effect enables untold = by (notice_telling o active.selected mailbox) refl (is_bad answer.last) refl
    where
      o : NoticeOptions
      o = options_after expunges active answer

      mailbox : Option Readable
      mailbox = mailbox_after view active answer

      replies : List Response
      replies = lines_of (followed_by (notice_lines o answer.told active.selected mailbox) answer)

      same_options : o ≡ notice_options expunges active.enabled
      same_options = ap (λ (more : EnabledCapabilities). notice_options expunges (both_enabled more active.enabled)) enables

      left_by : (bad : Bool) → is_bad answer.last ≡ bad → mailbox ≡ cond bad None (mailbox_left view active)
      left_by bad is = λ i. cond (is i) None (mailbox_left (view_after_asking (effect i) view) active)

      by : (told : Option Telling) → notice_telling o active.selected mailbox ≡ told → (bad : Bool) → is_bad answer.last ≡ bad → IsTied view replies told (Some active)
      by None is bad last = tt
      by (Some told) is true last = absurd (cc (sym is ∙ ap (notice_telling o active.selected) (left_by true last)))
      by (Some told) is false last = record {
        expunges = expunges;
        before = answer.untagged;
        last = answer.last;
        lines = λ i. (answer.untagged ++ notice_lines (same_options i) (untold i) active.selected (left_by false last i)) ++ answer.last ∷ [];
        told = sym (λ i. notice_telling (same_options i) active.selected (left_by false last i)) ∙ is;
        accepted = last;
      }

  notices_fit : (active : SessionState) → active_of own number ≡ Some active → (expunges : Bool) (answer : Answer) → IsFit view answer → Fits view own number what (with_notices view active expunges answer)
  notices_fit active there expunges answer fit =
      let o = options_after expunges active answer in
      let mailbox = mailbox_after view active answer in
      let lines = notice_lines o answer.told active.selected mailbox in
      let told = notice_telling o active.selected mailbox in
      noted_fits answer lines told
      (no_line_refuses is_refusal (λ n. refl) (λ n items. refl) (λ n. refl) (λ e uids. refl) o answer.told active.selected mailbox)
      (no_line_refuses is_unavailable (λ n. refl) (λ n items. refl) (λ n. refl) (λ e uids. refl) o answer.told active.selected mailbox)
      fit
      (λ effect enables untold. subst (IsTied view (lines_of (followed_by lines answer)) told) (sym there) (notices_tied active expunges answer effect enables untold))

  answer_fits : (active : SessionState) → active_of own number ≡ Some active → (expunges : Bool) (answer : Answer) → IsFit view answer → Fits view own number what (outcome_of_answer view active expunges answer)
  answer_fits active there expunges answer fit = by (newly_enables_condstore active answer)
    where
      by : (b : Bool) → Fits view own number what (with_notices view active expunges (cond b (preceded_by (highest_line (selected_mailbox view active.selected)) answer) answer))
      by true = notices_fit active there expunges (preceded_by (highest_line (selected_mailbox view active.selected)) answer) (highest_fits answer fit (selected_mailbox view active.selected))
      by false = notices_fit active there expunges answer fit

  -- a session that idles, or begins to
  idle_fits : (active : SessionState) (step : Idling) → Fits view own number what (idle_outcome view active step)
  idle_fits active step = by step
    where
      lines : List Response
      lines = idle_lines view active

      told : Option Telling
      told = idle_telling view active

      none : (test : Response → Bool) → ((n : ℕ) → test (response.Exists n) ≡ false) → ((n : ℕ) (items : FetchedItems) → test (response.Fetch n items) ≡ false)
          → ((n : ℕ) → test (response.Expunge n) ≡ false) → ((earlier : Bool) (uids : List ℕ) → test (response.Vanished earlier uids) ≡ false) → list_any test lines ≡ false
      none test exists fetch expunge vanished = no_line_refuses test exists fetch expunge vanished (notice_options true active.enabled) [] active.selected (mailbox_left view active)

      refuses : list_any is_refusal lines ≡ false
      refuses = none is_refusal (λ n. refl) (λ n items. refl) (λ n. refl) (λ e uids. refl)

      unavailable : list_any is_unavailable lines ≡ false
      unavailable = none is_unavailable (λ n. refl) (λ n items. refl) (λ n. refl) (λ e uids. refl)

      ended : (tag : List ℕ) (test : Response → Bool) → test (done_line tag) ≡ false → list_any test lines ≡ false → list_any test (lines ++ done_line tag ∷ []) ≡ false
      ended tag test last rest = list_any-append test lines (done_line tag ∷ []) ∙ (λ i. rest i || (last i || false))

      by : (step : Idling) → Fits view own number what (idle_outcome view active step)
      by (idling.Begins tag) = record {
        asks = λ _. tt;
        room = room_to_idle own number (Some tag) told;
        refused = λ e. absurd (true≢false (sym e ∙ refuses));
        available = unavailable;
      }
      by idling.Polls = record {
        asks = λ _. tt;
        room = room_noting nothing_enabled told;
        refused = λ e. absurd (true≢false (sym e ∙ refuses));
        available = unavailable;
      }
      by (idling.Ends tag) = record {
        asks = λ _. tt;
        room = room_to_idle own number None told;
        refused = λ e. absurd (true≢false (sym e ∙ ended tag is_refusal refl refuses));
        available = ended tag is_unavailable refl unavailable;
      }

  says : (replies : List Response) → list_any is_unavailable replies ≡ false → Fits view own number what (said replies session.Keep)
  says replies available = record {
    asks = λ _. tt;
    room = room_to_keep own number;
    refused = λ e. record { session = inl (stays (said replies session.Keep) refl); effect = refl };
    available = available;
  }

  ends : (replies : List Response) → list_any is_refusal replies ≡ false → list_any is_unavailable replies ≡ false → Fits view own number what (said replies session.End)
  ends replies carried_out available = record {
    asks = λ _. tt;
    room = room_to_end own number;
    refused = λ e. absurd (true≢false (sym e ∙ carried_out));
    available = available;
  }

  -- ---- mailboxes that are selected

  selects_nothing : (answer : Answer) → IsFit view answer → list_any is_refusal (lines_of answer) ≡ false → Fits view own number what (answered answer (session.Select nothing_enabled None))
  selects_nothing answer fit carried_out = record {
    asks = fit.asks;
    room = room_to_select own number nothing_enabled None;
    refused = λ e. absurd (true≢false (sym e ∙ carried_out));
    available = fit.available;
  }

  selected_fits : (active : SessionState) (tag : List ℕ) (outcome : Outcome) → Fits view own number what outcome → (selected : Option Selection) → Fits view own number what (if_selected selected tag outcome)
  selected_fits active tag outcome fit None = kept_fits (refusal tag WrongState) (fits_alone view _ _ refl)
  selected_fits active tag outcome fit (Some s) = fit

  selecting_fits : selects what ≡ true → (selecting : Selecting) → IsFit view selecting.answer
      → (list_any is_refusal (lines_of selecting.answer) ≡ true → selecting.selection ≡ None) → Fits view own number what (outcome_of_selecting selecting)
  selecting_fits asked selecting fit none = record {
    asks = fit.asks;
    room = room_to_select own number selecting.answer.enables selecting.selection;
    refused = λ e. record {
      session = inr (inl (asked, λ i. session.Select ((fit.refused e).1 i) (none e i)));
      effect = (fit.refused e).0;
    };
    available = fit.available;
  }

  select_fits : selects what ≡ true → (active : SessionState) (tag : List ℕ) (read_only : Bool) (mailbox : List ℕ) (parameters : SelectParameters)
      → Fits view own number what (select_outcome view active tag read_only mailbox parameters)
  select_fits asked active tag read_only mailbox parameters = by (is_malformed active.enabled parameters)
    where
      selecting : Selecting
      selecting = select_with_parameters view active tag read_only mailbox parameters

      by : (b : Bool) → Fits view own number what (cond b (kept (refusal tag Malformed)) (outcome_of_selecting selecting))
      by true = kept_fits (refusal tag Malformed) (fits_alone view _ _ refl)
      by false = selecting_fits asked selecting (resync.select_fits view active tag read_only mailbox parameters)
          (resync.refused_selects_none view active tag read_only mailbox parameters)

-- ---- commands

module _ (view : View) where
  pub command_fits : (active : SessionState) (tag : List ℕ) (at : Moment) (what : Command) → IsFit view (command_answer view active tag at what)
  command_fits active tag at command.Capability = fits_alone view _ _ refl
  command_fits active tag at command.Noop = fits_alone view _ _ refl
  command_fits active tag at command.Authenticate = fits_alone view _ _ refl
  command_fits active tag at command.Namespace = list.namespace_fits view tag
  command_fits active tag at (command.List selection reference patterns returns) =
      list.list_fits view tag (record { selection = selection; reference = reference; patterns = patterns; returns = returns })
  command_fits active tag at (command.Subscribe mailbox) = list.subscribe_fits view tag mailbox
  command_fits active tag at (command.Unsubscribe mailbox) = list.unsubscribe_fits view tag mailbox
  command_fits active tag at (command.Create mailbox) = tree.create_fits view tag mailbox
  command_fits active tag at (command.Delete mailbox) = tree.delete_fits view tag (selected_name active) mailbox
  command_fits active tag at (command.Rename from to) = tree.rename_fits view tag (selected_name active) from to
  command_fits active tag at (command.Enable words) = fits_enabling view (enabled_by_names (named_by words)) _ refl (fits_alone view _ _ refl)
  command_fits active tag at (command.Status mailbox items) = list.status_fits view tag mailbox items
  command_fits active tag at (command.Append mailbox flags date message) =
      messages.append_fits view tag at (record { mailbox = mailbox; flags = flags; date = date; message = message })
  command_fits active tag at (command.Fetch numbering named items since vanished) =
      messages.fetch_fits view tag active (record { numbering = numbering; messages = named; items = items; changed_since = since; vanished = vanished })
  command_fits active tag at (command.SetAcl mailbox identifier rights) = tree.set_acl_fits view tag mailbox identifier rights
  command_fits active tag at (command.DeleteAcl mailbox identifier) = tree.delete_acl_fits view tag mailbox identifier
  command_fits active tag at (command.GetAcl mailbox) = tree.get_acl_fits view tag mailbox
  command_fits active tag at (command.ListRights mailbox identifier) = tree.list_rights_fits view tag mailbox identifier
  command_fits active tag at (command.MyRights mailbox) = tree.my_rights_fits view tag mailbox
  command_fits active tag at command.Expunge = changes.expunge_fits view active tag None
  command_fits active tag at (command.UidExpunge named) = changes.expunge_fits view active tag (Some named)
  command_fits active tag at (command.Search numbering returns charset keys) =
      search_fits view active tag (record { numbering = numbering; returns = returns; charset = charset; keys = keys })
  command_fits active tag at (command.Store numbering named store) =
      storing.store_fits view active tag (record { numbering = numbering; messages = named; spec = store })
  command_fits active tag at (command.Copy numbering named mailbox) =
      copies.transfer_fits view active tag (record { kind = transfer.Copy; numbering = numbering; messages = named; mailbox = mailbox })
  command_fits active tag at (command.Move numbering named mailbox) =
      copies.transfer_fits view active tag (record { kind = transfer.Move; numbering = numbering; messages = named; mailbox = mailbox })
  command_fits active tag at _ = fits_alone view _ _ refl

module _ (view : View) (own : Option Own) (number : ℕ) where
  unselect_fits : (what : Act) (tag : List ℕ) (active : SessionState) → Fits view own number what (unselect_outcome active tag)
  unselect_fits what tag active = selected_fits view own number what active tag _ (selects_nothing view own number what (done tag) (fits_alone view _ _ refl) refl) active.selected

  close_fits : (what : Act) (tag : List ℕ) (active : SessionState) → Fits view own number what (close_outcome view active tag)
  close_fits what tag active = by active.selected refl
    where
      by : (selected : Option Selection) → active.selected ≡ selected → Fits view own number what (if_selected selected tag (answered (close_answer view active tag) (session.Select nothing_enabled None)))
      by None is = selected_fits view own number what active tag (said [] session.Keep) (says view own number what [] refl) None
      by (Some s) is = selects_nothing view own number what (close_answer view active tag) (changes.close_fits view active tag) (ap (λ (o : Option Selection). list_any is_refusal (lines_of (close_if_selected view tag o))) is)

  outcome_of_command_fits : (active : SessionState) → active_of own number ≡ Some active → (tag : List ℕ) (at : Moment) (asked : Command) → Fits view own number (act.Do (request.Command tag asked)) (command_outcome view active tag at asked)
  outcome_of_command_fits active there tag at command.Logout = ends view own number _ _ refl refl
  outcome_of_command_fits active there tag at (command.Select mailbox parameters) = select_fits view own number _ refl active tag false mailbox parameters
  outcome_of_command_fits active there tag at (command.Examine mailbox parameters) = select_fits view own number _ refl active tag true mailbox parameters
  outcome_of_command_fits active there tag at command.Close = close_fits _ tag active
  outcome_of_command_fits active there tag at command.Unselect = unselect_fits _ tag active
  outcome_of_command_fits active there tag at command.Idle = idle_fits view own number _ active (idling.Begins tag)
  outcome_of_command_fits active there tag at asked = answer_fits view own number _ active there (may_tell_expunges asked) (command_answer view active tag at asked) (command_fits view active tag at asked)

  request_fits : (active : SessionState) → active_of own number ≡ Some active → (at : Moment) (asked : Request) → Fits view own number (act.Do asked) (request_outcome view active at asked)
  request_fits active there at (request.Command tag asked) = outcome_of_command_fits active there tag at asked
  request_fits active there at (request.Malformed tag) = says view own number _ _ refl
  request_fits active there at (request.TooBig tag) = says view own number _ _ refl

-- ---- sessions

module _ (view : View) (own : Own) (number : ℕ) where
  opening : (what : Act) → MayOpen (Some own) number session.Open → Fits view (Some own) number what opened
  opening what room = record {
    asks = λ _. tt;
    room = room;
    refused = λ e. absurd (true≢false (sym e));
    available = refl;
  }

  unless_lost_fits : (what : Act) (outcome : Outcome) → Fits view (Some own) number what outcome → (is : Bool) → Fits view (Some own) number what (unless_lost is outcome)
  unless_lost_fits what outcome fit true = ends view (Some own) number what _ refl refl
  unless_lost_fits what outcome fit false = fit

  line_fits : (active : SessionState) → map.get own number ≡ Some active → (at : Moment) (asked : Request) (idle : Option (List ℕ)) → active.idle ≡ idle → Fits view (Some own) number (act.Do asked) (reply_by_idle view active at (act.Do asked) idle)
  line_fits active there at asked None idles = request_fits view (Some own) number active there at asked
  line_fits active there at asked (Some tag) idles = record {
    asks = λ _. tt;
    room = room_to_idle (Some own) number None None;
    refused = λ e. record { session = inr (inr (record { idles = ap is_idling there ∙ ap is_some idles; line = refl; is = refl })); effect = refl };
    available = refl;
  }

  poll_fits : (active : SessionState) (at : Moment) (idle : Option (List ℕ)) → Fits view (Some own) number act.Poll (reply_by_idle view active at act.Poll idle)
  poll_fits active at None = says view (Some own) number act.Poll [] refl
  poll_fits active at (Some tag) = idle_fits view (Some own) number act.Poll active idling.Polls

  done_fits : (active : SessionState) (at : Moment) (idle : Option (List ℕ)) → Fits view (Some own) number act.Done (reply_by_idle view active at act.Done idle)
  done_fits active at None = says view (Some own) number act.Done _ refl
  done_fits active at (Some tag) = idle_fits view (Some own) number act.Done active (idling.Ends tag)

  open_fits : (active : SessionState) → map.get own number ≡ Some active → (at : Moment) (what : Act) → Fits view (Some own) number what (reply_when_open view active at what)
  open_fits active there at act.Open = opening act.Open (inr (ap is_some there))
  open_fits active there at (act.Do asked) = unless_lost_fits (act.Do asked) _ (line_fits active there at asked active.idle refl) (is_lost view active)
  open_fits active there at act.Poll = unless_lost_fits act.Poll _ (poll_fits active at active.idle) (is_lost view active)
  open_fits active there at act.Done = unless_lost_fits act.Done _ (done_fits active at active.idle) (is_lost view active)
  open_fits active there at act.Leave = ends view (Some own) number act.Leave [] refl refl

  by_count : (b : Bool) → nat_le max_sessions (map.len own) ≡ b → Fits view (Some own) number act.Open (cond b (said (response.Bye LimitReached ∷ []) session.Keep) opened)
  by_count true e = says view (Some own) number act.Open _ refl
  by_count false e = opening act.Open (inl (leb-false max_sessions (map.len own) e))

  closed_fits : (what : Act) → Fits view (Some own) number what (reply_when_closed own what)
  closed_fits act.Open = by_count _ refl
  closed_fits (act.Do asked) = says view (Some own) number (act.Do asked) [] refl
  closed_fits act.Poll = says view (Some own) number act.Poll [] refl
  closed_fits act.Done = says view (Some own) number act.Done [] refl
  closed_fits act.Leave = says view (Some own) number act.Leave [] refl

  by_session : (step : Step) (active : Option SessionState) → map.get own number ≡ active → Fits view (Some own) number step.act (reply_by_session view own step active)
  by_session step None e = closed_fits step.act
  by_session step (Some active) e = open_fits active e step.at step.act

pub outcome_fits : (view : View) (own : Option Own) (step : Step) → Fits view own step.who.number step.act (outcome_for view own step)
outcome_fits view None step = says view None step.who.number step.act [] refl
outcome_fits view (Some own) step = by_session view own step.who.number step _ refl
