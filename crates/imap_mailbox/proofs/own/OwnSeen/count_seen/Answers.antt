use Rattle.imap_mailbox.proofs.SeenCounts.{gone_walked}
use Rattle.imap_mailbox.proofs.own.OwnSeen.count_seen.Goals as goal

pub returns : goal.returns
returns c = gone_walked c.args.self.now.own c.args.gone.now c.loop-message.message-index c.loop-message.count c.loop-message-test.false c.loop-message.invariant.total
