-- Each answer is fit.
use Rattle.std.proofs.Common.{◌≡◌, ℕ, Bool, true, false, cond, not, List, [], filter, length, Option, Some, None, refl}
use Rattle.std.specs.FinMap as map
use Rattle.imap_answer.specs.Alike.{AnswersAlike}
use Rattle.imap_answer.specs.Answer.{carried_out, refusal}
use Rattle.imap_answer.specs.Fit.{IsFit, IsViewed, MayBeAsked}
use Rattle.imap_answer.proofs.Alike.{answers_alike}
use Rattle.imap_answer.proofs.Fits.{fits_alone, fits_if_named}
use Rattle.imap_mailbox.specs.Lent.{row_uids}
use Rattle.imap_mailbox.specs.Rows.{Row, is_among}
use Rattle.imap_names.specs.Name.{Name}
use Rattle.imap_print.specs.declared.copied.CopiedUids.{CopiedUids}
use Rattle.imap_print.specs.declared.response.Code.{Code}
use Rattle.imap_print.specs.declared.response.Refusal.TheVariants.{Cannot, ExpungeIssued, Limit, Malformed, NonExistent, NoPerm, OverQuota, TryCreate}
use Rattle.imap_rights.specs.Rights.{has_any, insert, lookup}
use Rattle.imap_targets.specs.State.{Selection, SessionState}
use Rattle.imap_targets.specs.declared.message_numbers.Numbered.{Numbered}
use Rattle.imap_targets.specs.MessageNumbers.{has_known_numbers, is_by_uid, is_refused, is_saved, uids_of}
use Rattle.imap_targets.specs.Target.{holds_create_above, target_refusal}
use Rattle.imap_view.specs.declared.readable.Readable.{Readable}
use Rattle.imap_view.specs.Readable.{readable_in}
use Rattle.imap_view.specs.Seen.{Seen}
use Rattle.imap_view.specs.View.{View, rights_in}
use Rattle.imap_world.specs.declared.effect.Effect.{Effect}
use Rattle.imap_world.specs.Messages.{is_same_name}
use Rattle.imap_changes.specs.declared.transfer_kind.TransferKind.{TransferKind}
use Rattle.imap_changes.specs.declared.transfer_kind.TransferKind.TheVariants.{Copy, Move}
use Rattle.imap_changes.specs.Copies.{copies_of, rows_named}
use Rattle.imap_changes.specs.CopiedUids.{copied_uids}
use Rattle.imap_changes.specs.Transfer.{TransferArguments, copy_code, copy_effect, lacks_move_events, lacks_room, may_take, messages_of, move_effect, moved_lines, transfer_answer, transfer_if_readable, transfer_if_selected, transfer_named, transfer_rows, transfer_to_name, transfer_to_seen}
use Rattle.imap_changes.proofs.Asking.{may_copy, may_transfer}

module _ (view : View) (tag : List ℕ) where
  target_fits : (name : Name) → IsFit view (refusal tag (target_refusal view name))
  target_fits name = by (has_any (rights_in view name) lookup) (holds_create_above view name)
    where
      by : (listed may : Bool) → IsFit view (refusal tag (cond listed NoPerm (cond may TryCreate NonExistent)))
      by true may = fits_alone view _ _ refl
      by false true = fits_alone view _ _ refl
      by false false = fits_alone view _ _ refl

  copied_fits : (code : Option Code) (effect : Option Effect) → (IsViewed view → MayBeAsked view effect) → IsFit view (carried_out [] tag code effect)
  copied_fits code effect may = record { asks = may; refused = λ e. absurd (cc e); available = refl }

  moved_fits : (copied : Option CopiedUids) (effect : Option Effect) → (IsViewed view → MayBeAsked view effect) → IsFit view (carried_out (moved_lines copied) tag None effect)
  moved_fits None effect may = copied_fits None effect may
  moved_fits (Some copied) effect may = record { asks = may; refused = λ e. absurd (cc e); available = refl }

  module _ (s : Selection) (mailbox : Readable) (reads : readable_in view s.name ≡ Some mailbox) (target : Name) (seen : Seen) (is : map.get view.seen target ≡ Some seen) where
    module _ (chosen : Row → Bool) where
      abbrev rows : List Row
      rows = filter chosen mailbox.rows

      copy_fits : (full : Bool) → lacks_room seen (length (row_uids rows)) ≡ full
          → IsFit view (cond full (refusal tag OverQuota) (carried_out [] tag (copy_code (copied_uids seen (row_uids rows))) (copy_effect view.user target (copies_of seen.rights rows))))
      copy_fits true e = fits_alone view _ _ refl
      copy_fits false e = copied_fits (copy_code (copied_uids seen (row_uids rows))) _ (may_copy view target seen is s mailbox reads chosen e)

      move_fits : (full : Bool) → lacks_room seen (length (row_uids rows)) ≡ full → (many : Bool) → lacks_move_events mailbox (is_same_name s.name target) (length (row_uids rows)) ≡ many
          → IsFit view (cond full (refusal tag OverQuota) (cond many (refusal tag Limit) (carried_out (moved_lines (copied_uids seen (row_uids rows))) tag None (move_effect view.user target s.name (copies_of seen.rights rows) (row_uids rows)))))
      move_fits true e many f = fits_alone view _ _ refl
      move_fits false e true f = fits_alone view _ _ refl
      move_fits false e false f = moved_fits (copied_uids seen (row_uids rows)) _ (may_transfer view target seen is s mailbox reads chosen e f)

      rows_fit : (kind : TransferKind) → IsFit view (transfer_rows kind view tag s mailbox target seen rows)
      rows_fit Copy = copy_fits _ refl
      rows_fit Move = move_fits _ refl _ refl

    named_fits : (arguments : TransferArguments) (messages : List Numbered) (gone : Bool) → IsFit view (cond gone (refusal tag ExpungeIssued) (transfer_rows arguments.kind view tag s mailbox target seen (rows_named messages mailbox.rows)))
    named_fits arguments messages true = fits_alone view _ _ refl
    named_fits arguments messages false = rows_fit (λ (r : Row). is_among r.uid (uids_of messages)) arguments.kind

    held_fits : (arguments : TransferArguments) (held : Bool) → IsFit view (cond (not held) (refusal tag (target_refusal view target)) (transfer_named view tag arguments s mailbox target seen (messages_of arguments mailbox.next_uid s.known)))
    held_fits arguments false = target_fits target
    held_fits arguments true =
        let messages = messages_of arguments mailbox.next_uid s.known in
        named_fits arguments messages (is_refused (is_by_uid arguments.numbering) mailbox.rows messages)

  module _ (arguments : TransferArguments) (s : Selection) where
    seen_fits : (mailbox : Readable) → readable_in view s.name ≡ Some mailbox → (target : Name) (seen : Option Seen) → map.get view.seen target ≡ seen → IsFit view (transfer_to_seen view tag arguments s mailbox target seen)
    seen_fits mailbox reads target None is = target_fits target
    seen_fits mailbox reads target (Some seen) is = held_fits s mailbox reads target seen is arguments (has_any seen.rights insert)

    readable_fits : (mailbox : Option Readable) → readable_in view s.name ≡ mailbox → IsFit view (transfer_if_readable view tag arguments s mailbox)
    readable_fits None reads = fits_alone view _ _ refl
    readable_fits (Some mailbox) reads =
        fits_if_named view tag arguments.mailbox (transfer_to_name view tag arguments s mailbox) (λ target. seen_fits mailbox reads target (map.get view.seen target) refl)

    selected_by : (known saved may : Bool)
        → IsFit view (cond (not known) (refusal tag Malformed) (cond saved (refusal tag Cannot) (cond (not may) (refusal tag NoPerm) (transfer_if_readable view tag arguments s (readable_in view s.name)))))
    selected_by false saved may = fits_alone view _ _ refl
    selected_by true true may = fits_alone view _ _ refl
    selected_by true false false = fits_alone view _ _ refl
    selected_by true false true = readable_fits (readable_in view s.name) refl

pub transfer_fits : (view : View) (own : SessionState) (tag : List ℕ) (arguments : TransferArguments) → IsFit view (transfer_answer view own tag arguments)
transfer_fits view own tag arguments = by own.selected
  where
    by : (s : Option Selection) → IsFit view (transfer_if_selected view tag arguments s)
    by None = fits_alone view _ _ refl
    by (Some s) = selected_by view tag arguments s (has_known_numbers arguments.numbering (length s.known) arguments.messages) (is_saved arguments.messages) (may_take arguments.kind view s)

-- ---- alike

pub transfer_alike : (own : SessionState) (tag : List ℕ) (arguments : TransferArguments) → AnswersAlike (λ view. transfer_answer view own tag arguments)
transfer_alike own tag arguments = answers_alike (λ view. transfer_answer view own tag arguments) (λ view. transfer_fits view own tag arguments)
