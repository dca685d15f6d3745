use Rattle.std.proofs.Common.{ℕ, List, sym, subst}
use Rattle.imap_mailbox.specs.Summary.{highest_of}
use Rattle.imap_mailbox.specs.Held.{summary_in}
use Rattle.imap_mailbox.specs.Order.{AreGoneInOrder}
use Rattle.imap_mailbox.proofs.Bounds.{since_in_order}
use Rattle.imap_mailbox.proofs.mailbox.Mailbox.gone_since.Goals as goal

pub returns-clause-valid : goal.returns-clause-valid
returns-clause-valid c =
    let highest = highest_of (summary_in c.args.self.now) c.args.user.now in
    subst (λ (gone : List (ℕ × ℕ)). AreGoneInOrder c.args.self.now.next highest gone) (sym c.since.ensures)
    (since_in_order c.args.self.now.next highest c.args.number c.gone.result c.gone.ensures.valid)
