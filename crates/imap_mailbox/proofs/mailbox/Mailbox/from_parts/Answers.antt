use Rattle.std.proofs.Common.{List, Err, sym, subst}
use Rattle.imap_mailbox.specs.declared.message.Message.{Message}
use Rattle.imap_mailbox.specs.declared.message.GoneMessage.{GoneMessage}
use Rattle.imap_mailbox.specs.Parts.{Restores}
use Rattle.imap_mailbox.specs.Restored.{AreMessages, Checks, FitAll}
use Rattle.imap_mailbox.specs.Counted.{AreCounted}
use Rattle.imap_mailbox.specs.Summary.{AreRising, uids_in}
use Rattle.imap_mailbox.specs.Totals.{AreTotals}
use Rattle.imap_mailbox.proofs.FromParts.{rising_of, kept_of, bad_messages, bad_own, asked_moved, passed}
use Rattle.imap_mailbox.proofs.Recently.{nothing_noted}
use Rattle.imap_mailbox.proofs.mailbox.Mailbox.from_parts.Goals as goal

pub returns-in_err-check_messages : goal.returns-in_err-check_messages
returns-in_err-check_messages c =
    let parts = c.args.parts in
    passed (Restores parts) c.from_residual.result c.in_err-check_messages.field-0.0 c.from_residual.ensures
    (bad_messages parts c.in_err-check_messages.field-0.0
    (subst (λ (ms : List Message). Checks (AreMessages parts.next parts.shared ms parts.gone.items) (Err c.in_err-check_messages.field-0.0)) c.deref.ensures.value
    (subst (λ (gs : List GoneMessage). Checks (AreMessages parts.next parts.shared c.deref.result.now gs) (Err c.in_err-check_messages.field-0.0)) c.deref-2.ensures.value
    c.in_err-check_messages.ensures)))

pub returns-in_err-own : goal.returns-in_err-own
returns-in_err-own c =
    passed (Restores c.args.parts) c.from_residual-in_err-own.result c.in_err-own.field-0.0 c.from_residual-in_err-own.ensures
    (bad_own c.args.parts c.in_err-own.field-0.0 c.in_err-own.ensures)

pub invariant_of-result : goal.invariant_of-result
invariant_of-result c =
    let parts = c.args.parts in
    let asked : AreMessages parts.next parts.shared parts.messages.items parts.gone.items =
    subst (λ (ms : List Message). AreMessages parts.next parts.shared ms parts.gone.items) c.deref.ensures.value
    (subst (λ (gs : List GoneMessage). AreMessages parts.next parts.shared c.deref.result.now gs) c.deref-2.ensures.value c.in_ok-check_messages.ensures) in
    let kept = kept_of parts.next parts.shared c.sort_by_uid.new.messages.items c.sort_by_place.new.gone.items c.count_all.new.own c.sort_by_uid.ensures.sorted c.sort_by_place.ensures.sorted
    (asked_moved parts.next parts.shared parts.messages.items c.sort_by_uid.new.messages.items parts.gone.items c.sort_by_place.new.gone.items c.sort_by_uid.ensures.same c.sort_by_place.ensures.same asked)
    (subst (FitAll parts.next parts.shared) (sym c.count_all.ensures.lists) c.in_ok-own.ensures.1) in (
      kept,
      subst (λ (ms : List Message). AreCounted ms c.count_all.new.own) c.deref-3.ensures.value c.count_all.ensures.counted,
      nothing_noted parts.shared c.sort_by_uid.new.messages.items c.new.result c.new.ensures kept.sound.place,
      subst (λ (ms : List Message). AreTotals ms c.of-totals.result) c.deref-4.ensures.value c.of-totals.ensures,
    )

pub count_all-requires : goal.count_all-requires
count_all-requires c =
    let parts = c.args.parts in
    let asked : AreMessages parts.next parts.shared parts.messages.items parts.gone.items =
    subst (λ (ms : List Message). AreMessages parts.next parts.shared ms parts.gone.items) c.deref.ensures.value
    (subst (λ (gs : List GoneMessage). AreMessages parts.next parts.shared c.deref.result.now gs) c.deref-2.ensures.value c.in_ok-check_messages.ensures) in
    subst (λ (ms : List Message). AreRising (uids_in ms)) (sym c.deref-3.ensures.value) (
      1,
      parts.next,
      rising_of parts.next parts.shared c.sort_by_uid.new.messages.items c.sort_by_place.new.gone.items c.sort_by_uid.ensures.sorted
          (asked_moved parts.next parts.shared parts.messages.items c.sort_by_uid.new.messages.items parts.gone.items c.sort_by_place.new.gone.items c.sort_by_uid.ensures.same c.sort_by_place.ensures.same asked),
    )
