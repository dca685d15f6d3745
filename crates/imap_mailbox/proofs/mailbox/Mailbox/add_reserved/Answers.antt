use Rattle.std.proofs.Common.{◌<◌, ◌+◌, length, refl, ap, sym, subst, arith}
use Rattle.imap_modseq.specs.Numbers.{max_events}
use Rattle.imap_mailbox.specs.declared.message.Message.{Message}
use Rattle.imap_mailbox.specs.Counted.{AreCounted}
use Rattle.imap_mailbox.specs.Rows.{Added}
use Rattle.imap_mailbox.specs.Summary.{message_of}
use Rattle.imap_mailbox.specs.Held.{Held, summary_with, IsKept}
use Rattle.imap_mailbox.specs.Calls.{arrival}
use Rattle.imap_mailbox.proofs.AllCounted.{new_counted}
use Rattle.imap_mailbox.proofs.Keeping.{kept_step}
use Rattle.imap_mailbox.proofs.Recently.{added_noted}
use Rattle.imap_mailbox.specs.Recent.{AreNoted}
use Rattle.imap_mailbox.specs.Totals.{AreTotals}
use Rattle.imap_mailbox.proofs.Summing.{added_totals, few_deleted}
use Rattle.imap_mailbox.proofs.mailbox.Mailbox.add_reserved.Goals as goal

pub invariant_of-self : goal.invariant_of-self
invariant_of-self c =
    let few : c.self.inside.shared < max_events = subst (λ (h : Held). h.shared < max_events) (sym c.self.view_is) c.requires.few in
    let kept = c.self.invariant.0 in
    let message : Message = message_of c.self.inside.shared (arrival c.self.inside.next c.args.date c.args.octets c.args.flags) in (
      subst (λ messages. IsKept (summary_with messages c.self.inside.gone.items (c.self.inside.next + 1) (c.self.inside.shared + 1) c.self.inside.own)) (sym c.push_reserved.ensures.items)
          (kept_step (Added (arrival c.self.inside.next c.args.date c.args.octets c.args.flags)) (summary_with c.self.inside.messages.items c.self.inside.gone.items c.self.inside.next c.self.inside.shared c.self.inside.own) refl tt c.requires.keywords few kept),
      subst (λ messages. AreCounted messages c.self.inside.own) (sym c.push_reserved.ensures.items)
          (new_counted c.self.inside.own c.self.inside.next c.self.inside.shared c.self.inside.messages.items message kept.sound.fits (omega arith) c.self.invariant.1),
      subst (λ messages. AreNoted (c.self.inside.shared + 1) messages c.note.new.self) (sym c.push_reserved.ensures.items)
          (added_noted c.self.inside.recent c.note.new.self c.self.inside.next c.note.ensures c.self.inside.shared message c.self.inside.messages.items refl refl c.self.invariant.2),
      subst (λ messages. AreTotals messages c.add.new.self) (sym c.push_reserved.ensures.items)
          (added_totals c.self.inside.messages.items message _ c.self.inside.totals c.add.new.self (ap length c.as_slice.ensures) c.add.ensures c.self.invariant.3),
    )

pub note-requires : goal.note-requires
note-requires c = subst (λ n. n < max_events) (sym c.self.invariant.2.ends) (subst (λ (h : Held). h.shared < max_events) (sym c.self.view_is) c.requires.few)

pub add-requires : goal.add-requires
add-requires c =
    let few = few_deleted c.self.inside.messages.items c.self.inside.totals c.self.invariant.3 in
    let room = subst (λ (h : Held). 0 < h.add_room) (sym c.self.view_is) c.requires.room in
    omega (arith, few, room, c.self.inside.messages.ok)
