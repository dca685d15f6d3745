-- No line of an answer to STORE passes a test that no line of FETCH, no refusal and no OK passes.
use Rattle.std.proofs.Common.{◌≡◌, ℕ, Bool, true, false, cond, not, ◌||◌, List, [], ◌∷◌, ◌++◌, Option, Some, None, refl, ap, ◌∙◌}
use Rattle.std.specs.List.{list_any}
use Rattle.imap_answer.specs.Answer.{Answer, lines_of, refusal, refused_line}
use Rattle.imap_print.specs.declared.enabled.EnabledCapabilities.{EnabledCapabilities}
use Rattle.imap_print.specs.declared.fetch.FetchedItems.{FetchedItems}
use Rattle.imap_print.specs.declared.response.Code.{Code}
use Rattle.imap_print.specs.declared.response.Refusal.{Refusal}
use Rattle.imap_print.specs.declared.response.Refusal.TheVariants.{Cannot, ExpungeIssued, Limit, Malformed, NonExistent, NoPerm, WrongState}
use Rattle.imap_print.specs.declared.response.Response.{Response}
use Rattle.imap_print.specs.declared.response.Response.TheVariants as response
use Rattle.imap_targets.specs.declared.message_numbers.Numbered.{Numbered}
use Rattle.imap_targets.specs.MessageNumbers.{has_known_numbers, is_by_uid, is_refused, is_saved}
use Rattle.imap_targets.specs.NewFlags.{storing_rights}
use Rattle.imap_targets.specs.State.{Selection, SessionState}
use Rattle.imap_targets.specs.UnchangedSince.{skipped_numbers, unskipped}
use Rattle.imap_view.specs.declared.readable.Readable.{Readable}
use Rattle.imap_view.specs.Readable.{readable_in}
use Rattle.imap_view.specs.View.{View}
use Rattle.imap_changes.specs.declared.store_outcome.StoreOutcome.{StoreOutcome}
use Rattle.imap_changes.specs.Store.{StoreArguments, are_many, lacks_changes, lacks_right, lines_from, messages_of, modified_code, store_answer, store_events, store_if_readable, store_if_selected, store_unskipped, stored_all, tells_mod_seq}
use Rattle.imap_changes.proofs.StoreFitting.{lines_pass}

module _ (test : Response → Bool) (fetch : (number : ℕ) (items : FetchedItems) → test (response.Fetch number items) ≡ false)
    (refused : (tag : List ℕ) (reason : Refusal) → test (refused_line tag reason) ≡ false) (done : (tag : List ℕ) (code : Option Code) → test (response.Done tag code) ≡ false) where
  abbrev Passes : Answer → Type 0
  Passes answer = list_any test (lines_of answer) ≡ false

  last_passes : (line : Response) → test line ≡ false → list_any test (line ∷ []) ≡ false
  last_passes line none = ap (λ b. b || false) none

  refusal_passes : (tag : List ℕ) (reason : Refusal) → Passes (refusal tag reason)
  refusal_passes tag reason = last_passes (refused_line tag reason) (refused tag reason)

  unless_refused : (tag : List ℕ) (reason : Refusal) (refuses : Bool) (answer : Answer) → Passes answer → Passes (cond refuses (refusal tag reason) answer)
  unless_refused tag reason true answer h = refusal_passes tag reason
  unless_refused tag reason false answer h = h

  module _ (view : View) (enabled : EnabledCapabilities) (tag : List ℕ) (arguments : StoreArguments) (rights : ℕ) (s : Selection) where
    events_pass : (mailbox : Readable) (skipped : List ℕ) (stored : List StoreOutcome) → Passes (store_events view enabled tag arguments s mailbox skipped stored)
    events_pass mailbox skipped stored = unless_refused tag Limit (lacks_changes mailbox stored) _ carried
      where
        last : Response
        last = response.Done tag (modified_code skipped)

        lines : List Response
        lines = lines_from arguments.spec.silent (tells_mod_seq enabled arguments.spec) mailbox.highest stored

        carried : list_any test (lines ++ last ∷ []) ≡ false
        carried = lines_pass test fetch arguments.spec.silent (tells_mod_seq enabled arguments.spec) mailbox.highest stored (last ∷ []) ∙ last_passes last (done tag (modified_code skipped))

    stored_pass : (mailbox : Readable) (skipped : List ℕ) (stored : List StoreOutcome) (many : Bool) → Passes (cond many (refusal tag Limit) (store_events view enabled tag arguments s mailbox skipped stored))
    stored_pass mailbox skipped stored true = refusal_passes tag Limit
    stored_pass mailbox skipped stored false = events_pass mailbox skipped stored

    named_pass : (mailbox : Readable) (named : List Numbered) (refuses : Bool) → Passes (cond refuses (refusal tag ExpungeIssued) (store_unskipped view enabled tag arguments rights s mailbox named))
    named_pass mailbox named true = refusal_passes tag ExpungeIssued
    named_pass mailbox named false =
        let since = arguments.spec.unchanged_since in
        let stored = stored_all rights arguments.spec s (unskipped since mailbox.rows named) mailbox.rows in
        stored_pass mailbox (skipped_numbers arguments.numbering since mailbox.rows named) stored (are_many stored)

    readable_pass : (mailbox : Option Readable) → Passes (store_if_readable view enabled tag arguments rights s mailbox)
    readable_pass None = refusal_passes tag NonExistent
    readable_pass (Some mailbox) =
        let named = messages_of arguments mailbox.next_uid s.known in
        named_pass mailbox named (is_refused (is_by_uid arguments.numbering) mailbox.rows named)

    selected_pass : (known saved lacks : Bool)
        → Passes (cond (not known) (refusal tag Malformed) (cond saved (refusal tag Cannot) (cond lacks (refusal tag NoPerm) (store_if_readable view enabled tag arguments rights s (readable_in view s.name)))))
    selected_pass false saved lacks = refusal_passes tag Malformed
    selected_pass true true lacks = refusal_passes tag Cannot
    selected_pass true false true = refusal_passes tag NoPerm
    selected_pass true false false = readable_pass (readable_in view s.name)

  pub store_passes : (view : View) (own : SessionState) (tag : List ℕ) (arguments : StoreArguments) → Passes (store_answer view own tag arguments)
  store_passes view own tag arguments = by own.selected
    where
      by : (selected : Option Selection) → Passes (store_if_selected view own.enabled tag arguments selected)
      by None = refusal_passes tag WrongState
      by (Some s) = selected_pass view own.enabled tag arguments (storing_rights view s) s (has_known_numbers arguments.numbering _ arguments.messages) (is_saved arguments.messages) (lacks_right (storing_rights view s) arguments.spec.flags)
