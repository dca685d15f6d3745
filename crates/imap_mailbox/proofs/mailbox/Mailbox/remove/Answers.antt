use Rattle.std.proofs.Common.{◌≡◌, true, ◌<◌, ◌+◌, ◌∙◌, List, [], ◌∷◌, ap, sym, subst, arith}
use Rattle.imap_modseq.specs.Numbers.{max_events}
use Rattle.imap_mailbox.specs.Rows.{Expunged}
use Rattle.imap_mailbox.specs.declared.message.Message.{Message}
use Rattle.imap_mailbox.specs.Own.{Own}
use Rattle.imap_mailbox.specs.Counted.{seen_among}
use Rattle.imap_mailbox.specs.Summary.{is_there, uids_in}
use Rattle.imap_mailbox.specs.Held.{Held, summary_in, summary_with, IsKept}
use Rattle.imap_mailbox.proofs.AllCounted.{gone_counted}
use Rattle.imap_mailbox.proofs.SeenCounts.{seen_without}
use Rattle.imap_mailbox.proofs.Keeping.{kept_step}
use Rattle.imap_mailbox.proofs.Recently.{kept_message, left_noted, one_more}
use Rattle.imap_mailbox.specs.Recent.{AreNoted}
use Rattle.imap_mailbox.specs.Expunging.{without_all}
use Rattle.imap_mailbox.specs.Totals.{AreTotals, AreOfGone}
use Rattle.imap_mailbox.proofs.Summing.{one_left}
use Rattle.imap_mailbox.proofs.mailbox.Mailbox.remove.Goals as goal

pub invariant_of-self : goal.invariant_of-self
invariant_of-self c =
    let few : c.self.inside.shared < max_events = subst (λ (h : Held). h.shared < max_events) (sym c.self.view_is) c.requires.few in
    let there : is_there c.args.uid (summary_with c.self.inside.messages.items c.self.inside.gone.items c.self.inside.next c.self.inside.shared c.self.inside.own) ≡ true =
    subst (λ (h : Held). is_there c.args.uid (summary_in h) ≡ true) (sym c.self.view_is) c.requires.there in
    let messages = c.self.inside.messages.items in
    let fewer = λ (list : Own). ap (λ (ms : List Message). seen_among list (uids_in ms)) c.remove_message.ensures.items ∙ seen_without list c.args.uid 1 c.self.inside.next messages c.self.invariant.0.sound.uids there in (
      subst IsKept (λ i. record { messages = sym c.remove_message.ensures.items i; gone = sym c.push_reserved.ensures.items i; next = c.self.inside.next; shared = c.self.inside.shared + 1; own = sym c.forget_gone.ensures.lists i })
          (kept_step (Expunged c.args.uid) (summary_with c.self.inside.messages.items c.self.inside.gone.items c.self.inside.next c.self.inside.shared c.self.inside.own) tt there tt few c.self.invariant.0),
      gone_counted c.self.inside.own c.forget_gone.new.own (c.args.uid ∷ []) c.forget_gone.ensures.counts messages c.remove_message.new.messages.items fewer c.self.invariant.1,
      subst (λ messages. AreNoted (c.self.inside.shared + 1) messages c.note.new.self) (sym c.remove_message.ensures.items)
          (left_noted c.self.inside.recent c.note.new.self c.self.inside.shared 1 _ messages (one_more c.self.inside.recent c.note.new.self c.args.uid c.note.ensures)
          (kept_message c.self.inside.recent c.note.new.self c.args.uid c.note.ensures) c.self.invariant.2),
      subst (λ (messages : List Message). AreTotals messages c.lower.new.self) c.deref-2.ensures.value c.lower.ensures,
    )

pub note-requires : goal.note-requires
note-requires c = subst (λ n. n < max_events) (sym c.self.invariant.2.ends) (subst (λ (h : Held). h.shared < max_events) (sym c.self.view_is) c.requires.few)

pub lower-requires : goal.lower-requires
lower-requires c = record {
  all = c.self.inside.messages.items;
  whole = c.self.invariant.3;
  gone = subst (λ (left : List Message). AreOfGone c.self.inside.messages.items left c.of_uids-went.result)
      (one_left c.args.uid c.self.inside.messages.items c.remove_message.new.messages.items c.remove_message.ensures.items ∙ sym c.deref-2.ensures.value)
      (subst (λ (messages : List Message). AreOfGone messages (without_all (c.args.uid ∷ []) messages) c.of_uids-went.result) c.deref.ensures.value c.of_uids-went.ensures);
}

pub of_uids-went-requires-clause-uids : goal.of_uids-went-requires-clause-uids
of_uids-went-requires-clause-uids c = (c.args.uid, c.args.uid + 1, (omega arith, omega arith))
