-- The answer to a FETCH that has found its messages.
use Rattle.std.proofs.Common.{◌≡◌, ℕ, ◌+◌, ◌≤◌, Bool, true, false, cond, List, [], ◌∷◌, Option, None, sym, ap, subst, ◌∙◌, arith}
use Rattle.imap_answer.specs.Answer.{carried_out, enabling, preceded_by, refusal, telling}
use Rattle.imap_mailbox.specs.Order.{AreRowsInOrder}
use Rattle.imap_mailbox.specs.Rows.{Row, first_uid}
use Rattle.imap_mailbox.specs.Summary.{AreRising, Rises}
use Rattle.imap_mailbox.proofs.Rising.{rises_lower}
use Rattle.imap_print.specs.declared.enabled.EnabledCapabilities.{EnabledCapabilities}
use Rattle.imap_print.specs.declared.response.Refusal.TheVariants.{ExpungeIssued}
use Rattle.imap_targets.specs.Held.{UidsRise, uid_limit}
use Rattle.imap_targets.specs.State.{Selection}
use Rattle.imap_syntax.specs.declared.set.Numbering.{Numbering}
use Rattle.imap_syntax.specs.declared.set.SeqRange.{SeqRange}
use Rattle.imap_view.specs.declared.readable.Readable.{Readable}
use Rattle.imap_view.specs.View.{View}
use Rattle.imap_messages.specs.declared.reading.Reading.{Reading}
use Rattle.imap_messages.specs.Fetch.{FetchArguments, enabled_by, fetch_changed, fetch_messages, fetch_read, fetched_lines, fetched_uids, messages_of, sets_seen, wanted_by}
use Rattle.imap_messages.specs.Changed.{changed_of, fetched_set, is_changed, vanished_lines}
use Rattle.imap_messages.specs.Fetched.{Wanted}
use Rattle.imap_messages.specs.Found.{IsReading, marks_named}
use Rattle.imap_targets.specs.declared.message_numbers.Numbered.{Numbered}
use Rattle.imap_targets.specs.MessageNumbers.{is_by_uid, is_refused, last_of, messages_from, ranges_of, row_with, uids_of}
use Rattle.imap_messages.specs.Reading.{lines_from, read_effect, uids_told}
use Rattle.imap_targets.specs.Effects.{marking_effect}
use Rattle.imap_targets.proofs.Listed.{named_rise}
use Rattle.imap_messages.proofs.Marked.{reading_is, uids_rise}

-- those that changed rise, as all do
changed_rise : (since : Option ℕ) (rows : List Row) (low high : ℕ) (messages : List Numbered) → Rises low high (uids_of messages) → Rises low high (uids_of (changed_of since rows messages))
changed_rise since rows low high [] h = h
changed_rise since rows low high (m ∷ messages) h = by (is_changed since (row_with m.uid rows)) (changed_rise since rows (m.uid + 1) high messages h.1)
  where
    by : (b : Bool) → Rises (m.uid + 1) high (uids_of (changed_of since rows messages)) → Rises low high (uids_of (cond b (m ∷ changed_of since rows messages) (changed_of since rows messages)))
    by true later = (h.0, later)
    by false later = let from : low ≤ m.uid = h.0 in rises_lower (m.uid + 1) low high (uids_of (changed_of since rows messages)) (omega (arith, from)) later

module _ (view : View) (enabled : EnabledCapabilities) (tag : List ℕ) (arguments : FetchArguments) (s : Selection) (mailbox : Readable) (order : AreRowsInOrder mailbox.next_uid mailbox.highest mailbox.rows) (rise : UidsRise s.known) where
  abbrev messages : List Numbered
  messages = messages_of arguments s.known mailbox

  abbrev changed : List Numbered
  changed = changed_of arguments.changed_since mailbox.rows messages

  abbrev sets_it : Bool
  sets_it = sets_seen view s arguments

  module _ (by : Numbering) (last : ℕ) (ranges : List SeqRange) (since : Option ℕ) (wanted : Wanted) (sets : Bool) (by_is : by ≡ arguments.numbering) (last_is : last ≡ last_of arguments.numbering mailbox.next_uid s.known)
      (ranges_is : ranges ≡ ranges_of arguments.messages) (since_is : since ≡ arguments.changed_since) (wanted_is : wanted ≡ wanted_by enabled arguments) (sets_is : sets ≡ sets_it) where
    named : messages_from by last ranges 1 s.known ≡ messages
    named = λ j. messages_from (by_is j) (last_is j) (ranges_is j) 1 s.known

    chosen : changed_of since mailbox.rows (messages_from by last ranges 1 s.known) ≡ changed
    chosen = λ j. changed_of (since_is j) mailbox.rows (named j)

    read_is : (found : Reading) → IsReading wanted sets mailbox (changed_of since mailbox.rows (messages_from by last ranges 1 s.known)) found
        → telling found.told.items (enabling (enabled_by arguments) (carried_out found.lines.items tag None (marking_effect view.user s.name found.marks.items))) ≡ fetch_read view enabled tag arguments s mailbox changed
    read_is found read =
        let lines : found.lines.items ≡ fetched_lines enabled arguments sets_it mailbox changed =
        read.lines ∙ λ j. lines_from (wanted_is j) (sets_is j) mailbox.rows mailbox.highest mailbox.own (chosen j) in
        let effect : marking_effect view.user s.name found.marks.items ≡ read_effect sets_it view.user s.name changed mailbox.rows =
        ap (marking_effect view.user s.name) (read.marks ∙ λ j. marks_named (sets_is j) mailbox.rows (chosen j))
        ∙ reading_is sets_it view.user s.name uid_limit first_uid mailbox.next_uid first_uid changed mailbox.rows
        (changed_rise arguments.changed_since mailbox.rows first_uid uid_limit messages
        (named_rise arguments.numbering (last_of arguments.numbering mailbox.next_uid s.known) (ranges_of arguments.messages) first_uid uid_limit 1 s.known rise)) order.uids in
        let told : found.told.items ≡ fetched_uids enabled arguments sets_it mailbox changed =
        read.told ∙ λ j. uids_told (wanted_is j) (sets_is j) mailbox.rows mailbox.own (chosen j) in
        λ j. telling (told j) (enabling (enabled_by arguments) (carried_out (lines j) tag None (effect j)))

    pub answer_is : (found : Reading) → false ≡ is_refused (is_by_uid by) mailbox.rows (messages_from by last ranges 1 s.known)
        → IsReading wanted sets mailbox (changed_of since mailbox.rows (messages_from by last ranges 1 s.known)) found
        → preceded_by (vanished_lines view s.name arguments.vanished arguments.changed_since (fetched_set (ranges_of arguments.messages) mailbox.next_uid))
        (telling found.told.items (enabling (enabled_by arguments) (carried_out found.lines.items tag None (marking_effect view.user s.name found.marks.items))))
        ≡ fetch_messages view enabled tag arguments s mailbox messages
    answer_is found refused read =
        let kept : false ≡ is_refused (is_by_uid arguments.numbering) mailbox.rows messages = refused ∙ λ j. is_refused (is_by_uid (by_is j)) mailbox.rows (named j) in
        ap (preceded_by (vanished_lines view s.name arguments.vanished arguments.changed_since (fetched_set (ranges_of arguments.messages) mailbox.next_uid))) (read_is found read)
        ∙ ap (λ b. cond b (refusal tag ExpungeIssued) (fetch_changed view enabled tag arguments s mailbox messages)) kept

    -- the UIDs of the messages that are read rise, and so do those that are told
    pub told_rise : (found : Reading) → IsReading wanted sets mailbox (changed_of since mailbox.rows (messages_from by last ranges 1 s.known)) found → AreRising found.told.items
    told_rise found read = (
      first_uid,
      uid_limit,
      subst (Rises first_uid uid_limit) (sym read.told)
          (uids_rise wanted sets mailbox.rows mailbox.own first_uid uid_limit (changed_of since mailbox.rows (messages_from by last ranges 1 s.known))
          (changed_rise since mailbox.rows first_uid uid_limit (messages_from by last ranges 1 s.known) (named_rise by last ranges first_uid uid_limit 1 s.known rise))),
    )
