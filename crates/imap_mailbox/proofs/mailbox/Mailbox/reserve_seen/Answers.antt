use Rattle.std.proofs.Common.{sym, subst}
use Rattle.imap_mailbox.specs.Held.{IsKept}
use Rattle.imap_mailbox.proofs.mailbox.Mailbox.reserve_seen.Goals as goal

pub invariant_of-self : goal.invariant_of-self
invariant_of-self c = (
  subst IsKept (λ i. record { messages = c.self.inside.messages.items; gone = c.self.inside.gone.items; next = c.self.inside.next; shared = c.self.inside.shared; own = sym c.reserve_own.ensures.lists i })
      c.self.invariant.0,
  c.reserve_own.ensures.counted c.self.inside.messages.items c.self.invariant.1,
  c.self.invariant.2,
  c.self.invariant.3,
)
