use Rattle.std.proofs.Common.{◌<◌, ◌+◌, ◌∙◌, map, refl, ap, sym, subst}
use Rattle.imap_modseq.specs.Numbers.{max_events}
use Rattle.imap_mailbox.specs.Rows.{FlagsSet}
use Rattle.imap_mailbox.specs.Held.{Held, summary_with, IsKept}
use Rattle.imap_mailbox.specs.Summary.{uids_in, flags_in}
use Rattle.imap_mailbox.proofs.AllCounted.{same_counted}
use Rattle.imap_mailbox.proofs.Fitting.{put_uid}
use Rattle.imap_mailbox.proofs.Keeping.{kept_step}
use Rattle.imap_mailbox.proofs.Recently.{set_noted}
use Rattle.imap_mailbox.specs.Recent.{AreNoted}
use Rattle.imap_mailbox.specs.Totals.{AreTotals}
use Rattle.imap_mailbox.proofs.mailbox.Mailbox.put_flags.Goals as goal

pub invariant_of-self : goal.invariant_of-self
invariant_of-self c =
    let few : c.self.inside.shared < max_events = subst (λ (h : Held). h.shared < max_events) (sym c.self.view_is) c.requires.few in (
      subst (λ messages. IsKept (summary_with messages c.self.inside.gone.items c.self.inside.next (c.self.inside.shared + 1) c.self.inside.own)) (sym c.set_message_flags.ensures.items)
          (kept_step (FlagsSet c.args.uid c.args.flags) (summary_with c.self.inside.messages.items c.self.inside.gone.items c.self.inside.next c.self.inside.shared c.self.inside.own) tt tt c.requires.keywords few c.self.invariant.0),
      same_counted c.self.inside.own c.self.inside.messages.items c.set_message_flags.new.messages.items
          (ap uids_in c.set_message_flags.ensures.items ∙ put_uid c.args.uid c.args.flags c.self.inside.shared c.self.inside.messages.items) c.self.invariant.1,
      subst (λ messages. AreNoted (c.self.inside.shared + 1) messages c.note.new.self) (sym c.set_message_flags.ensures.items)
          (set_noted c.self.inside.recent c.note.new.self c.args.uid c.note.ensures c.self.inside.shared c.args.flags c.self.inside.messages.items c.self.invariant.2),
      subst (λ messages. AreTotals messages c.put_deleted.new.self) (sym c.set_message_flags.ensures.items)
          (subst (λ messages. AreTotals (map (flags_in c.args.uid c.args.flags c.self.inside.shared) messages) c.put_deleted.new.self) c.deref.ensures.value
          (c.put_deleted.ensures c.args.flags c.self.inside.shared refl)),
    )

pub note-requires : goal.note-requires
note-requires c = subst (λ n. n < max_events) (sym c.self.invariant.2.ends) (subst (λ (h : Held). h.shared < max_events) (sym c.self.view_is) c.requires.few)

pub put_deleted-requires-clause-totals : goal.put_deleted-requires-clause-totals
put_deleted-requires-clause-totals c = subst (λ messages. AreTotals messages c.self.inside.totals) (sym c.deref.ensures.value) c.self.invariant.3
