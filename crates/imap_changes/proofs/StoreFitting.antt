-- Each answer of STORE is fit.
use Rattle.std.proofs.Common.{◌≡◌, ℕ, ◌+◌, ◌≤◌, Bool, true, false, cond, not, ◌&&◌, ◌||◌, List, [], ◌∷◌, ◌++◌, append_assoc, length, map, Option, Some, None, refl, sym, ap, ◌∙◌, true≢false, arith}
use Rattle.std.specs.Prelude.{nat_le, nat_lt}
use Rattle.std.specs.List.{list_all, list_any}
use Rattle.std.proofs.lemmas.Bool.{and_from, eq-eqb, le-leb, ltb-false}
use Rattle.imap_answer.specs.Alike.{AnswersAlike}
use Rattle.imap_answer.specs.Answer.{Answer, carried_out, enabling, refusal, telling}
use Rattle.imap_answer.specs.Fit.{IsFit, IsViewed, MayBeAsked, is_refusal, is_unavailable}
use Rattle.imap_answer.proofs.Alike.{answers_alike}
use Rattle.imap_answer.proofs.Fits.{fits_alone, fits_enabling, fits_telling}
use Rattle.imap_batch.specs.declared.batch.FlagUpdate.{FlagUpdate}
use Rattle.imap_batch.specs.Batch.{are_few, are_known, flag_count, mark_uids}
use Rattle.imap_commands.specs.declared.commands.store.StoreSpec.{StoreSpec}
use Rattle.imap_mailbox.specs.Flags.{has_too_many}
use Rattle.imap_mailbox.specs.Lent.{row_uids}
use Rattle.imap_mailbox.specs.Rows.{Row, first_uid, is_among}
use Rattle.imap_mailbox.specs.Summary.{Rises}
use Rattle.imap_print.specs.declared.enabled.EnabledCapabilities.{EnabledCapabilities}
use Rattle.imap_print.specs.declared.fetch.FetchedItems.{FetchedItems}
use Rattle.imap_print.specs.declared.response.Refusal.TheVariants.{Cannot, ExpungeIssued, Limit, Malformed, NoPerm}
use Rattle.imap_print.specs.declared.response.Response.{Response}
use Rattle.imap_print.specs.declared.response.Response.TheVariants as response
use Rattle.imap_targets.specs.State.{Selection, SessionState}
use Rattle.imap_view.specs.declared.readable.Readable.{Readable}
use Rattle.imap_view.specs.Readable.{readable_in}
use Rattle.imap_view.specs.View.{View}
use Rattle.imap_world.specs.declared.effect.Effect.{Effect}
use Rattle.imap_targets.specs.declared.message_numbers.Numbered.{Numbered}
use Rattle.imap_targets.specs.Left.{events_left}
use Rattle.imap_targets.specs.MessageNumbers.{has_known_numbers, is_by_uid, is_refused, is_saved}
use Rattle.imap_targets.specs.NewFlags.{storing_rights}
use Rattle.imap_targets.proofs.Possible.{known_more, may_change, rows_rise}
use Rattle.imap_changes.specs.declared.store_outcome.StoreOutcome.{StoreOutcome}
use Rattle.imap_targets.specs.Effects.{marking_effect}
use Rattle.imap_changes.specs.Store.{StoreArguments, are_many, enabled_by, event_count, flag_changes, full_line, lacks_changes, lacks_right, line_of, lines_from, marks_of, message_after, messages_of, modified_code, number_with, short_line, store_answer, store_events, store_if_readable, store_if_selected, store_unskipped, stored_all, stored_if_named, stored_of, tells_mod_seq}
use Rattle.imap_targets.specs.UnchangedSince.{skipped_numbers, unskipped}

-- ---- marks of messages

-- each has as many keywords as it may have
few_marks : (messages : List StoreOutcome) → are_many messages ≡ false → list_all (λ (k : FlagUpdate). are_few k.flags) (marks_of messages) ≡ true
few_marks [] few = refl
few_marks (m ∷ messages) few = by (has_too_many m.flags) refl few (few_marks messages)
  where
    marks : Bool → Bool → List FlagUpdate
    marks f s = cond (f || s) (record { uid = m.uid; flags = cond f (Some m.flags) None; seen = cond s (Some m.seen) None } ∷ []) []

    with_rest : (f s : Bool) → has_too_many m.flags ≡ false → list_all (λ (k : FlagUpdate). are_few k.flags) (marks_of messages) ≡ true
        → list_all (λ (k : FlagUpdate). are_few k.flags) (marks f s ++ marks_of messages) ≡ true
    with_rest true s one rest = ap (λ b. not b && list_all (λ (k : FlagUpdate). are_few k.flags) (marks_of messages)) one ∙ rest
    with_rest false true one rest = rest
    with_rest false false one rest = rest

    by : (b : Bool) → has_too_many m.flags ≡ b → (b || are_many messages) ≡ false → (are_many messages ≡ false → list_all (λ (k : FlagUpdate). are_few k.flags) (marks_of messages) ≡ true)
        → list_all (λ (k : FlagUpdate). are_few k.flags) (marks_of (m ∷ messages)) ≡ true
    by true is few rest = absurd (cc few)
    by false is few rest = with_rest m.flags_change m.seen_changes is (rest few)

-- one shared event for each message that gets other flags
events_counted : (messages : List StoreOutcome) → flag_count (marks_of messages) ≡ flag_changes messages
events_counted [] = refl
events_counted (m ∷ messages) = by m.flags_change m.seen_changes (events_counted messages)
  where
    marks : Bool → Bool → List FlagUpdate
    marks f s = cond (f || s) (record { uid = m.uid; flags = cond f (Some m.flags) None; seen = cond s (Some m.seen) None } ∷ []) []

    by : (f s : Bool) → flag_count (marks_of messages) ≡ flag_changes messages → flag_count (marks f s ++ marks_of messages) ≡ cond f 1 0 + flag_changes messages
    by true s rest = ap (λ n. 1 + n) rest
    by false true rest = ap (λ n. 0 + n) rest
    by false false rest = rest ∙ (let z : flag_changes messages ≡ 0 + flag_changes messages = omega arith in z)

-- their UIDs rise, and are those of rows
module _ (rights : ℕ) (spec : StoreSpec) (selection : Selection) (messages : List Numbered) where
  abbrev uids_in : List Row → List ℕ
  uids_in rows = mark_uids (marks_of (stored_all rights spec selection messages rows))

  pub marks_known : (l low high : ℕ) (rows : List Row) → l ≤ low → Rises low high (row_uids rows) → are_known l (uids_in rows) (row_uids rows) ≡ true
  marks_known l low high [] le h = refl
  marks_known l low high (r ∷ rows) le h = by_name (number_with r.uid messages) (λ k below. marks_known k (r.uid + 1) high rows below h.1)
    where
      at : low ≤ r.uid
      at = h.0

      Later : Type 0
      Later = (k : ℕ) → k ≤ r.uid + 1 → are_known k (uids_in rows) (row_uids rows) ≡ true

      with_mark : (uid : ℕ) → uid ≡ r.uid → Later → are_known l (uid ∷ uids_in rows) (r.uid ∷ row_uids rows) ≡ true
      with_mark uid is later =
          ap (λ u. are_known l (u ∷ uids_in rows) (r.uid ∷ row_uids rows)) is
          ∙ and_from (nat_le l r.uid) (is_among r.uid (r.uid ∷ row_uids rows) && are_known (r.uid + 1) (uids_in rows) (r.uid ∷ row_uids rows)) (le-leb l r.uid (omega (arith, le, at)))
          (and_from (is_among r.uid (r.uid ∷ row_uids rows)) (are_known (r.uid + 1) (uids_in rows) (r.uid ∷ row_uids rows)) (ap (λ b. b || is_among r.uid (row_uids rows)) (eq-eqb r.uid r.uid refl))
          (known_more (r.uid + 1) r.uid (uids_in rows) (row_uids rows) (later (r.uid + 1) (omega arith))))

      by_change : (m : StoreOutcome) → m.uid ≡ r.uid → (f s : Bool) → Later
          → are_known l (mark_uids (cond (f || s) (record { uid = m.uid; flags = cond f (Some m.flags) None; seen = cond s (Some m.seen) None } ∷ []) [] ++ marks_of (stored_all rights spec selection messages rows))) (r.uid ∷ row_uids rows) ≡ true
      by_change m is true s later = with_mark m.uid is later
      by_change m is false true later = with_mark m.uid is later
      by_change m is false false later = known_more l r.uid (uids_in rows) (row_uids rows) (later l (omega (arith, le, at)))

      by_name : (o : Option ℕ) → Later → are_known l (mark_uids (marks_of (stored_if_named rights spec selection o r ++ stored_all rights spec selection messages rows))) (r.uid ∷ row_uids rows) ≡ true
      by_name None later = known_more l r.uid (uids_in rows) (row_uids rows) (later l (omega (arith, le, at)))
      by_name (Some n) later =
          let m = stored_of rights spec selection n r in
          by_change m refl m.flags_change m.seen_changes later

-- ---- what is asked

both_false : (a b : Bool) → (a || b) ≡ false → a ≡ false
both_false true b e = absurd (cc e)
both_false false b e = refl

module _ (view : View) (s : Selection) (mailbox : Readable) (e : readable_in view s.name ≡ Some mailbox) where
  by_marks : IsViewed view → (marks : List FlagUpdate) → list_all (λ (k : FlagUpdate). are_few k.flags) marks ≡ true → flag_count marks ≤ events_left mailbox
      → are_known 0 (mark_uids marks) (row_uids mailbox.rows) ≡ true → MayBeAsked view (marking_effect view.user s.name marks)
  by_marks viewed [] few events known = tt
  by_marks viewed (k ∷ marks) few events known = (
    may_change view viewed s.name mailbox (record { user = view.user; added = []; marks = k ∷ marks; expunged = [] })
        (record { none = refl; keywords = few; events = omega (arith, events); marked = known; expunged = refl }) e refl,
    tt,
  )

  may_ask : (rights : ℕ) (spec : StoreSpec) (messages : List Numbered) → IsViewed view → are_many (stored_all rights spec s messages mailbox.rows) ≡ false
      → lacks_changes mailbox (stored_all rights spec s messages mailbox.rows) ≡ false
      → MayBeAsked view (marking_effect view.user s.name (marks_of (stored_all rights spec s messages mailbox.rows)))
  may_ask rights spec messages viewed few suffice =
      let stored = stored_all rights spec s messages mailbox.rows in
      let rise = rows_rise view viewed s.name mailbox e in
      let left = ltb-false (events_left mailbox) (flag_changes stored) (both_false (nat_lt (events_left mailbox) (flag_changes stored)) _ suffice) in
      by_marks viewed (marks_of stored) (few_marks stored few) (omega (arith, left, events_counted stored))
      (marks_known rights spec s messages 0 first_uid rise.0 mailbox.rows (omega arith) rise.1)

-- ---- answers

-- lines of STORE don't pass a test that no line of FETCH passes
module _ (test : Response → Bool) (fetch : (number : ℕ) (items : FetchedItems) → test (response.Fetch number items) ≡ false) (silent condstore : Bool) where
  line_passes : (after : ℕ) (m : StoreOutcome) (rest : List Response) → list_any test (line_of silent condstore after m ++ rest) ≡ list_any test rest
  line_passes after m rest = by (not silent || m.behind) condstore
    where
      by : (b c : Bool) → list_any test (cond b (full_line condstore m.number (message_after after m) ∷ []) (cond c (short_line m.number (message_after after m) ∷ []) []) ++ rest) ≡ list_any test rest
      by true c = ap (λ t. t || list_any test rest) (fetch m.number _)
      by false true = ap (λ t. t || list_any test rest) (fetch m.number _)
      by false false = refl

  pub lines_pass : (highest : ℕ) (messages : List StoreOutcome) (rest : List Response) → list_any test (lines_from silent condstore highest messages ++ rest) ≡ list_any test rest
  lines_pass highest [] rest = refl
  lines_pass highest (m ∷ messages) rest =
      let after = highest + event_count m in
      ap (list_any test) (append_assoc (line_of silent condstore after m) (lines_from silent condstore after messages) rest)
      ∙ line_passes after m (lines_from silent condstore after messages ++ rest)
      ∙ lines_pass after messages rest

module _ (view : View) (enabled : EnabledCapabilities) (tag : List ℕ) (arguments : StoreArguments) (rights : ℕ) (s : Selection) where
  abbrev spec : StoreSpec
  spec = arguments.spec

  abbrev store_lines : Readable → List StoreOutcome → List Response
  store_lines mailbox messages = lines_from spec.silent (tells_mod_seq enabled spec) mailbox.highest messages

  -- the answer of a command that isn't refused
  abbrev made : Readable → (skipped : List ℕ) → List StoreOutcome → Option Effect → Answer
  made mailbox skipped messages effect =
      enabling (enabled_by spec) (telling (map (λ (m : StoreOutcome). m.uid) messages) (carried_out (store_lines mailbox messages) tag (modified_code skipped) effect))

  carried : (mailbox : Readable) (skipped : List ℕ) (messages : List StoreOutcome) (effect : Option Effect) → (IsViewed view → MayBeAsked view effect) → IsFit view (made mailbox skipped messages effect)
  carried mailbox skipped messages effect may =
      let uids = map (λ (m : StoreOutcome). m.uid) messages in
      let answer = carried_out (store_lines mailbox messages) tag (modified_code skipped) effect in
      let last = response.Done tag (modified_code skipped) ∷ [] in
      let passes = lines_pass is_refusal (λ number items. refl) spec.silent (tells_mod_seq enabled spec) mailbox.highest messages last in
      fits_enabling view (enabled_by spec) (telling uids answer) passes (fits_telling view uids answer passes (record {
        asks = may;
        refused = λ e. absurd (true≢false (sym e ∙ passes));
        available = lines_pass is_unavailable (λ number items. refl) spec.silent (tells_mod_seq enabled spec) mailbox.highest messages last;
      }))

  events_fit : (mailbox : Readable) (skipped : List ℕ) (messages : List StoreOutcome) → (lacks : Bool) → (lacks ≡ false → IsViewed view → MayBeAsked view (marking_effect view.user s.name (marks_of messages)))
      → IsFit view (cond lacks (refusal tag Limit) (made mailbox skipped messages (marking_effect view.user s.name (marks_of messages))))
  events_fit mailbox skipped messages true may = fits_alone view _ _ refl
  events_fit mailbox skipped messages false may = carried mailbox skipped messages (marking_effect view.user s.name (marks_of messages)) (may refl)

  abbrev stored : Readable → List Numbered → List StoreOutcome
  stored mailbox messages = stored_all rights spec s messages mailbox.rows

  messages_fit : (mailbox : Readable) → readable_in view s.name ≡ Some mailbox → (skipped : List ℕ) (messages : List Numbered) → (many : Bool) → are_many (stored mailbox messages) ≡ many
      → IsFit view (cond many (refusal tag Limit) (store_events view enabled tag arguments s mailbox skipped (stored mailbox messages)))
  messages_fit mailbox is skipped messages true many = fits_alone view _ _ refl
  messages_fit mailbox is skipped messages false few = by (lacks_changes mailbox (stored mailbox messages)) refl
    where
      by : (lacks : Bool) → lacks_changes mailbox (stored mailbox messages) ≡ lacks
          → IsFit view (cond lacks (refusal tag Limit) (made mailbox skipped (stored mailbox messages) (marking_effect view.user s.name (marks_of (stored mailbox messages)))))
      by lacks e = events_fit mailbox skipped (stored mailbox messages) lacks (λ no_lack viewed. may_ask view s mailbox is rights spec messages viewed few (e ∙ no_lack))

  named_fit : (mailbox : Readable) → readable_in view s.name ≡ Some mailbox → (messages : List Numbered) → (refused : Bool)
      → IsFit view (cond refused (refusal tag ExpungeIssued) (store_unskipped view enabled tag arguments rights s mailbox messages))
  named_fit mailbox is messages true = fits_alone view _ _ refl
  named_fit mailbox is messages false =
      let since = spec.unchanged_since in
      let others = unskipped since mailbox.rows messages in
      messages_fit mailbox is (skipped_numbers arguments.numbering since mailbox.rows messages) others (are_many (stored mailbox others)) refl

  readable_fits : (mailbox : Option Readable) → readable_in view s.name ≡ mailbox → IsFit view (store_if_readable view enabled tag arguments rights s mailbox)
  readable_fits None is = fits_alone view _ _ refl
  readable_fits (Some mailbox) is =
      let messages = messages_of arguments mailbox.next_uid s.known in
      named_fit mailbox is messages (is_refused (is_by_uid arguments.numbering) mailbox.rows messages)

  selected_by : (known saved lacks : Bool)
      → IsFit view (cond (not known) (refusal tag Malformed) (cond saved (refusal tag Cannot) (cond lacks (refusal tag NoPerm) (store_if_readable view enabled tag arguments rights s (readable_in view s.name)))))
  selected_by false saved lacks = fits_alone view _ _ refl
  selected_by true true lacks = fits_alone view _ _ refl
  selected_by true false true = fits_alone view _ _ refl
  selected_by true false false = readable_fits (readable_in view s.name) refl

pub store_fits : (view : View) (own : SessionState) (tag : List ℕ) (arguments : StoreArguments) → IsFit view (store_answer view own tag arguments)
store_fits view own tag arguments = by own.selected
  where
    by : (s : Option Selection) → IsFit view (store_if_selected view own.enabled tag arguments s)
    by None = fits_alone view _ _ refl
    by (Some s) = selected_by view own.enabled tag arguments (storing_rights view s) s (has_known_numbers arguments.numbering (length s.known) arguments.messages) (is_saved arguments.messages) (lacks_right (storing_rights view s) arguments.spec.flags)

-- ---- alike

pub store_alike : (own : SessionState) (tag : List ℕ) (arguments : StoreArguments) → AnswersAlike (λ view. store_answer view own tag arguments)
store_alike own tag arguments = answers_alike (λ view. store_answer view own tag arguments) (λ view. store_fits view own tag arguments)
