use Rattle.std.proofs.Common.{subst}
use Rattle.imap_modseq.specs.Numbers.{max_events}
use Rattle.imap_mailbox.specs.Lent.{own_lent, NeverFall}
use Rattle.imap_mailbox.proofs.Since.{rest_rises}
use Rattle.imap_mailbox.proofs.gone.GoneUids.len.Goals as goal

pub returns-clause-order : goal.returns-clause-order
returns-clause-order c = subst NeverFall c.self.view_is
    (rest_rises (own_lent c.self.inside.own) c.self.invariant.places.0 max_events c.self.inside.first c.self.inside.gone.now.items c.self.invariant.places.1)
