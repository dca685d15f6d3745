use Rattle.std.proofs.Common.{◌≡◌, ◌<◌, true, sym, subst, length}
use Rattle.imap_modseq.specs.Numbers.{max_events}
use Rattle.imap_mailbox.specs.Rows.{WasGiven}
use Rattle.imap_mailbox.specs.Own.{own_at}
use Rattle.imap_mailbox.specs.Summary.{Summary, is_there, uids_in}
use Rattle.imap_mailbox.specs.Held.{Held, summary_with, summary_in, IsKept}
use Rattle.imap_mailbox.proofs.Accounts.{among_rising}
use Rattle.imap_mailbox.proofs.Keeping.{kept_marked}
use Rattle.imap_mailbox.proofs.mailbox.Mailbox.put_seen.Goals as goal

pub invariant_of-self : goal.invariant_of-self
invariant_of-self c =
    let s : Summary = summary_with c.self.inside.messages.items c.self.inside.gone.items c.self.inside.next c.self.inside.shared c.self.inside.own in
    let uids = c.self.invariant.0.sound.uids in
    let there : is_there c.args.uid s ≡ true = subst (λ (h : Held). is_there c.args.uid (summary_in h) ≡ true) (sym c.self.view_is) c.requires.there in
    let known : WasGiven c.self.inside.next c.args.uid = among_rising c.args.uid 1 c.self.inside.next (uids_in c.self.inside.messages.items) uids there in
    let few : length (own_at s.own c.args.user.now).befores < max_events = subst (λ (h : Held). length (own_at (summary_in h).own c.args.user.now).befores < max_events) (sym c.self.view_is) c.requires.few in (
      subst IsKept (λ i. record { messages = c.self.inside.messages.items; gone = c.self.inside.gone.items; next = c.self.inside.next; shared = c.self.inside.shared; own = sym c.mark_own.ensures.lists i })
          (kept_marked c.args.user.now c.args.uid c.args.seen s known few c.self.invariant.0),
      c.mark_own.ensures.counted c.self.inside.messages.items (1, c.self.inside.next, uids) there c.self.invariant.1,
      c.self.invariant.2,
      c.self.invariant.3,
    )
