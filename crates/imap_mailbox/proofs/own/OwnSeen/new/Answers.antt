use Rattle.imap_mailbox.proofs.OwnTables.{none_seen}
use Rattle.imap_mailbox.proofs.own.OwnSeen.new.Goals as goal

pub invariant_of-result : goal.invariant_of-result
invariant_of-result c = none_seen c.new.result.befores c.new-2.result.items c.new-3.result c.new.ensures c.new-2.ensures.items c.new-3.ensures
