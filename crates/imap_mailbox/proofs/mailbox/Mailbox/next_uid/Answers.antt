use Rattle.std.proofs.Common.{subst}
use Rattle.imap_mailbox.specs.Held.{Held, summary_in, IsKept}
use Rattle.imap_mailbox.proofs.mailbox.Mailbox.next_uid.Goals as goal

pub returns-clause-valid : goal.returns-clause-valid
returns-clause-valid c = subst (λ (h : Held). IsKept (summary_in h)) c.self.view_is c.self.invariant.0
