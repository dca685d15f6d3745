-- Each answer is fit.
use Rattle.std.proofs.Common.{◌≡◌, ℕ, Bool, true, false, cond, not, ◌||◌, List, [], ◌∷◌, ◌++◌, append_assoc, length, Option, Some, None, refl, sym, ap, subst, ◌∙◌, true≢false}
use Rattle.std.specs.List.{list_any}
use Rattle.std.specs.FinMap as map
use Rattle.imap_answer.specs.Alike.{AnswersAlike}
use Rattle.imap_answer.specs.Answer.{carried_out, done_line, done_with_code, enabling, refusal}
use Rattle.imap_answer.specs.Fit.{IsFit, is_refusal, is_unavailable}
use Rattle.imap_answer.proofs.Alike.{answers_alike}
use Rattle.imap_answer.proofs.Fits.{fits_alone, fits_asking_there, fits_enabling, fits_if_named, fits_preceded, fits_telling}
use Rattle.imap_batch.specs.declared.batch.NewMessage.{NewMessage}
use Rattle.imap_mailbox.specs.Flags.{has_too_many}
use Rattle.imap_mailbox.specs.Rows.{Row}
use Rattle.imap_names.specs.Name.{Name}
use Rattle.imap_print.specs.declared.response.Refusal.TheVariants.{Cannot, ExpungeIssued, Limit, Malformed, NonExistent, NoPerm, OverQuota, TryCreate}
use Rattle.imap_print.specs.declared.enabled.EnabledCapabilities.{EnabledCapabilities}
use Rattle.imap_print.specs.declared.fetch.FetchedItems.{FetchedItems}
use Rattle.imap_print.specs.declared.response.Response.{Response}
use Rattle.imap_print.specs.declared.response.Response.TheVariants as response
use Rattle.imap_resync.specs.UidSet.{UidSet}
use Rattle.imap_resync.specs.Vanished.{earlier_line, vanished_in}
use Rattle.imap_rights.specs.Rights.{has_any, insert, lookup}
use Rattle.imap_targets.specs.State.{Selection, SessionState}
use Rattle.imap_syntax.specs.Lexical.{has_nul}
use Rattle.imap_syntax.specs.Moments.{Moment}
use Rattle.imap_view.specs.MessagesAfter.{IsPossibleAt}
use Rattle.imap_view.specs.declared.readable.Readable.{Readable}
use Rattle.imap_view.specs.Readable.{readable_in}
use Rattle.imap_view.specs.Seen.{Seen}
use Rattle.imap_view.specs.View.{View, rights_in}
use Rattle.imap_batch.specs.Batch.{adding}
use Rattle.imap_messages.specs.Append.{AppendArguments, append_answer, append_message, append_to_name, append_to_seen, appends, is_full, message_of}
use Rattle.imap_messages.specs.Fetch.{FetchArguments, enabled_by, fetch_answer, fetch_changed, fetch_if_readable, fetch_if_selected, fetch_read, fetched_lines, fetched_uids, is_impossible, is_malformed, messages_of, sets_seen, wanted_by}
use Rattle.imap_messages.specs.Changed.{changed_of, fetched_set, vanished_lines}
use Rattle.imap_messages.specs.Fetched.{Wanted}
use Rattle.imap_targets.specs.declared.message_numbers.Numbered.{Numbered}
use Rattle.imap_targets.specs.MessageNumbers.{is_by_uid, is_refused, ranges_of, row_with}
use Rattle.imap_messages.specs.Reading.{count_after, line_if_there, lines_from, read_effect}
use Rattle.imap_targets.specs.Target.{append_code, holds_create_above, target_refusal}
use Rattle.imap_messages.proofs.Possible.{possible}
use Rattle.imap_messages.proofs.ReadPossible.{may_read}

module _ (view : View) (tag : List ℕ) where
  target_fits : (name : Name) → IsFit view (refusal tag (target_refusal view name))
  target_fits name = by (has_any (rights_in view name) lookup) (holds_create_above view name)
    where
      by : (listed may : Bool) → IsFit view (refusal tag (cond listed NoPerm (cond may TryCreate NonExistent)))
      by true may = fits_alone view _ _ refl
      by false true = fits_alone view _ _ refl
      by false false = fits_alone view _ _ refl

  -- ---- APPEND

  append_by : (name : Name) (seen : Seen) → map.get view.seen name ≡ Some seen → (m : NewMessage) (many : Bool) → has_too_many m.flags ≡ many → (full : Bool) → is_full seen.messages.room ≡ full
      → IsFit view (cond many (refusal tag Limit) (cond full (refusal tag OverQuota) (done_with_code tag (append_code seen) (appends view.user name m))))
  append_by name seen is m true many full f = fits_alone view _ _ refl
  append_by name seen is m false few true f = fits_alone view _ _ refl
  append_by name seen is m false few false room =
      fits_asking_there view tag (append_code seen) (appends view.user name m)
      (λ viewed. (record { own = refl; possible = subst (IsPossibleAt (adding view.user (m ∷ []))) (sym is) (possible view viewed name seen m room is few) }, tt))

  append_held : (at : Moment) (arguments : AppendArguments) (name : Name) (seen : Seen) → map.get view.seen name ≡ Some seen → (held nul : Bool)
      → IsFit view (cond (not held) (refusal tag (target_refusal view name)) (cond nul (refusal tag Cannot) (append_message view tag name seen (message_of seen.rights at arguments))))
  append_held at arguments name seen is false nul = target_fits name
  append_held at arguments name seen is true true = fits_alone view _ _ refl
  append_held at arguments name seen is true false = append_by name seen is (message_of seen.rights at arguments) _ refl _ refl

  append_seen : (at : Moment) (arguments : AppendArguments) (name : Name) (seen : Option Seen) → map.get view.seen name ≡ seen → IsFit view (append_to_seen view tag at arguments name seen)
  append_seen at arguments name None is = target_fits name
  append_seen at arguments name (Some seen) is = append_held at arguments name seen is (has_any seen.rights insert) (has_nul arguments.message)

  pub append_fits : (at : Moment) (arguments : AppendArguments) → IsFit view (append_answer view tag at arguments)
  append_fits at arguments =
      fits_if_named view tag arguments.mailbox (append_to_name view tag at arguments) (λ name. append_seen at arguments name (map.get view.seen name) refl)

-- ---- FETCH

-- lines of FETCH don't pass a test that none of these lines passes
module _ (test : Response → Bool) (fetch : (number : ℕ) (items : FetchedItems) → test (response.Fetch number items) ≡ false) (wanted : Wanted) (sets : Bool) (rows : List Row) where
  line_passes : (highest own number : ℕ) (rest : List Response) (row : Option Row) → list_any test (line_if_there wanted sets highest own number row ++ rest) ≡ list_any test rest
  line_passes highest own number rest None = refl
  line_passes highest own number rest (Some row) = ap (λ b. b || list_any test rest) (fetch number _)

  pub lines_pass : (highest own : ℕ) (messages : List Numbered) (rest : List Response) → list_any test (lines_from wanted sets rows highest own messages ++ rest) ≡ list_any test rest
  lines_pass highest own [] rest = refl
  lines_pass highest own (m ∷ messages) rest =
      let row = row_with m.uid rows in
      let h = count_after sets own row highest in
      let o = count_after sets own row own in
      ap (list_any test) (append_assoc (line_if_there wanted sets highest own m.number row) (lines_from wanted sets rows h o messages) rest)
      ∙ line_passes highest own m.number (lines_from wanted sets rows h o messages ++ rest) row
      ∙ lines_pass h o messages rest

-- nor does the line of the messages that went
vanished_pass : (test : Response → Bool) → ((uids : List ℕ) → test (response.Vanished true uids) ≡ false) → (view : View) (name : Name) (asked : Bool) (since : Option ℕ) (uids : UidSet)
    → list_any test (vanished_lines view name asked since uids) ≡ false
vanished_pass test line view name true (Some since) uids = by (vanished_in view name since (Some uids))
  where
    by : (us : List ℕ) → list_any test (earlier_line us) ≡ false
    by [] = refl
    by (u ∷ us) = ap (λ b. b || false) (line (u ∷ us))
vanished_pass test line view name true None uids = refl
vanished_pass test line view name false None uids = refl
vanished_pass test line view name false (Some since) uids = refl

module _ (view : View) (tag : List ℕ) (enabled : EnabledCapabilities) (arguments : FetchArguments) (s : Selection) where
  read_fits : (mailbox : Readable) (messages : List Numbered) → readable_in view s.name ≡ Some mailbox → IsFit view (fetch_read view enabled tag arguments s mailbox messages)
  read_fits mailbox messages is =
      let sets = sets_seen view s arguments in
      let wanted = wanted_by enabled arguments in
      let answer = carried_out (fetched_lines enabled arguments sets mailbox messages) tag None (read_effect sets view.user s.name messages mailbox.rows) in
      let carried = lines_pass is_refusal (λ number items. refl) wanted sets mailbox.rows mailbox.highest mailbox.own messages (done_line tag ∷ []) in
      fits_telling view (fetched_uids enabled arguments sets mailbox messages) (enabling (enabled_by arguments) answer) carried
      (fits_enabling view (enabled_by arguments) answer carried (record {
        asks = λ viewed. may_read view s.name messages mailbox viewed sets is;
        refused = λ e. absurd (true≢false (sym e ∙ carried));
        available = lines_pass is_unavailable (λ number items. refl) wanted sets mailbox.rows mailbox.highest mailbox.own messages (done_line tag ∷ []);
      }))

  messages_fit : (mailbox : Readable) (messages : List Numbered) → readable_in view s.name ≡ Some mailbox → (refused : Bool)
      → IsFit view (cond refused (refusal tag ExpungeIssued) (fetch_changed view enabled tag arguments s mailbox messages))
  messages_fit mailbox messages is true = fits_alone view _ _ refl
  messages_fit mailbox messages is false =
      let uids = fetched_set (ranges_of arguments.messages) mailbox.next_uid in
      fits_preceded view (vanished_lines view s.name arguments.vanished arguments.changed_since uids) _
      (vanished_pass is_refusal (λ us. refl) view s.name arguments.vanished arguments.changed_since uids)
      (vanished_pass is_unavailable (λ us. refl) view s.name arguments.vanished arguments.changed_since uids)
      (read_fits mailbox (changed_of arguments.changed_since mailbox.rows messages) is)

  readable_fits : (mailbox : Option Readable) → readable_in view s.name ≡ mailbox → IsFit view (fetch_if_readable view enabled tag arguments s mailbox)
  readable_fits None is = fits_alone view _ _ refl
  readable_fits (Some mailbox) is =
      let messages = messages_of arguments s.known mailbox in
      messages_fit mailbox messages is (is_refused (is_by_uid arguments.numbering) mailbox.rows messages)

  selected_by : (malformed impossible : Bool)
      → IsFit view (cond malformed (refusal tag Malformed) (cond impossible (refusal tag Cannot) (fetch_if_readable view enabled tag arguments s (readable_in view s.name))))
  selected_by true impossible = fits_alone view _ _ refl
  selected_by false true = fits_alone view _ _ refl
  selected_by false false = readable_fits (readable_in view s.name) refl

pub fetch_fits : (view : View) (tag : List ℕ) (own : SessionState) (arguments : FetchArguments) → IsFit view (fetch_answer view own tag arguments)
fetch_fits view tag own arguments = by own.selected
  where
    by : (s : Option Selection) → IsFit view (fetch_if_selected view own.enabled tag arguments s)
    by None = fits_alone view _ _ refl
    by (Some s) = selected_by view tag own.enabled arguments s (is_malformed own.enabled (length s.known) arguments) (is_impossible arguments)

-- ---- alike

pub append_alike : (tag : List ℕ) (at : Moment) (arguments : AppendArguments) → AnswersAlike (λ view. append_answer view tag at arguments)
append_alike tag at arguments = answers_alike (λ view. append_answer view tag at arguments) (λ view. append_fits view tag at arguments)

pub fetch_alike : (own : SessionState) (tag : List ℕ) (arguments : FetchArguments) → AnswersAlike (λ view. fetch_answer view own tag arguments)
fetch_alike own tag arguments = answers_alike (λ view. fetch_answer view own tag arguments) (λ view. fetch_fits view tag own arguments)
