use Rattle.std.proofs.Common.{◌≡◌, ◌≤◌, ◌+◌, ◌∙◌, List, length, drop, sym, ap, subst, arith}
use Rattle.imap_modseq.specs.Numbers.{max_events}
use Rattle.imap_mailbox.specs.Own.{Own}
use Rattle.imap_mailbox.specs.Summary.{Summary, gone_uids}
use Rattle.imap_mailbox.specs.Expunging.{with_expunges, without_all}
use Rattle.imap_mailbox.specs.Held.{Held, summary_in, summary_with, IsKept}
use Rattle.imap_mailbox.proofs.AllCounted.{gone_counted}
use Rattle.imap_mailbox.proofs.ExpungedAll.{made_by, kept_expunges}
use Rattle.imap_mailbox.proofs.Recently.{gone_count, left_noted}
use Rattle.imap_mailbox.proofs.SeenCounts.{seen_fewer}
use Rattle.imap_mailbox.specs.Recent.{AreNoted}
use Rattle.imap_mailbox.specs.declared.message.Message.{Message}
use Rattle.imap_mailbox.specs.Totals.{AreTotals, AreOfGone}
use Rattle.imap_mailbox.proofs.mailbox.Mailbox.expunge_all_reserved.Goals as goal

pub invariant_of-self : goal.invariant_of-self
invariant_of-self c =
    let s : Summary = summary_with c.self.inside.messages.items c.self.inside.gone.items c.self.inside.next c.self.inside.shared c.self.inside.own in
    let few : s.shared + length c.args.uids.now ≤ max_events = subst (λ (h : Held). h.shared + length c.args.uids.now ≤ max_events) (sym c.self.view_is) c.requires.few in
    let first : c.len-first.result ≡ length c.self.inside.gone.items = omega (arith, c.len-first.ensures, c.self.inside.gone.ok) in
    let gone = gone_count c.self.inside.gone.items c.push_gone-next.new.gone.items c.split_at.result.1.now c.self.inside.shared c.len-first.result c.args.uids.now c.deref.result.now c.push_gone-next.ensures.items first
    (c.split_at.ensures.back ∙ ap (drop c.len-first.result) c.deref-2.ensures.value) in
    let next : c.self.inside.shared + length c.split_at.result.1.now ≡ c.push_gone-next.result = omega (arith, gone.0, c.push_gone-next.ensures.next) in (
      subst IsKept (made_by c.requires.rising.0 c.requires.rising.1 c.args.uids.now s c.deref.result.now _ _ _ _ c.requires.rising.2 c.deref.ensures.value c.remove_messages.ensures.items c.push_gone-next.ensures.items c.push_gone-next.ensures.next c.forget_gone.ensures.lists)
          (kept_expunges c.args.uids.now s few c.self.invariant.0),
      gone_counted c.self.inside.own c.forget_gone.new.own (gone_uids c.split_at.result.1.now) c.forget_gone.ensures.counts c.self.inside.messages.items c.remove_messages.new.messages.items
          (λ (list : Own). seen_fewer list c.requires.rising.0 c.requires.rising.1 c.args.uids.now 1 c.self.inside.next c.self.inside.shared c.self.inside.messages.items c.deref.result.now
          c.remove_messages.new.messages.items c.self.inside.gone.items c.push_gone-next.new.gone.items c.split_at.result.1.now c.requires.rising.2 c.self.invariant.0.sound.uids c.deref.ensures.value
          c.remove_messages.ensures.items c.push_gone-next.ensures.items (c.split_at.ensures.back ∙ λ i. drop (first i) (c.deref-2.ensures.value i)))
          c.self.invariant.1,
      subst (λ n. AreNoted n c.remove_messages.new.messages.items c.note_all.new.self) next
          (subst (λ messages. AreNoted (c.self.inside.shared + length c.split_at.result.1.now) messages c.note_all.new.self) (sym c.remove_messages.ensures.items)
          (left_noted c.self.inside.recent c.note_all.new.self c.self.inside.shared (length c.split_at.result.1.now) _ c.self.inside.messages.items c.note_all.ensures.ends c.note_all.ensures.kept c.self.invariant.2)),
      subst (λ (messages : List Message). AreTotals messages c.lower.new.self) c.deref-4.ensures.value c.lower.ensures,
    )

pub returns-clause-contents : goal.returns-clause-contents
returns-clause-contents c =
    let s : Summary = summary_with c.self.inside.messages.items c.self.inside.gone.items c.self.inside.next c.self.inside.shared c.self.inside.own in
    sym (made_by c.requires.rising.0 c.requires.rising.1 c.args.uids.now s c.deref.result.now _ _ _ _ c.requires.rising.2 c.deref.ensures.value c.remove_messages.ensures.items c.push_gone-next.ensures.items c.push_gone-next.ensures.next c.forget_gone.ensures.lists)
    ∙ ap (λ (h : Held). with_expunges c.args.uids.now (summary_in h)) c.self.view_is

pub note_all-requires : goal.note_all-requires
note_all-requires c =
    let few : c.self.inside.shared + length c.args.uids.now ≤ max_events = subst (λ (h : Held). h.shared + length c.args.uids.now ≤ max_events) (sym c.self.view_is) c.requires.few in
    let first : c.len-first.result ≡ length c.self.inside.gone.items = omega (arith, c.len-first.ensures, c.self.inside.gone.ok) in
    let gone = gone_count c.self.inside.gone.items c.push_gone-next.new.gone.items c.split_at.result.1.now c.self.inside.shared c.len-first.result c.args.uids.now c.deref.result.now c.push_gone-next.ensures.items first
    (c.split_at.ensures.back ∙ ap (drop c.len-first.result) c.deref-2.ensures.value) in
    omega (arith, few, gone.1, c.self.invariant.2.ends)

pub lower-requires : goal.lower-requires
lower-requires c = record {
  all = c.self.inside.messages.items;
  whole = c.self.invariant.3;
  gone = subst (λ (left : List Message). AreOfGone c.self.inside.messages.items left c.of_uids-went.result)
      (sym c.remove_messages.ensures.items ∙ sym c.deref-4.ensures.value)
      (subst (λ (messages : List Message). AreOfGone messages (without_all (c.args.uids.now) messages) c.of_uids-went.result) c.deref-3.ensures.value c.of_uids-went.ensures);
}
