use Rattle.std.proofs.Common.{arith}
use Rattle.imap_modseq.proofs.Order.{before_most}
use Rattle.imap_mailbox.proofs.own.OwnSeen.count_before.Goals as goal

pub returns-clause-few : goal.returns-clause-few
returns-clause-few c = omega (arith, c.count_before.ensures, before_most c.self.inside.befores.befores c.args.place, c.self.invariant.few)
