use Rattle.imap_mailbox.proofs.DecidedShown.{expunges_are_seen}
use Rattle.imap_mailbox.proofs.laws.expunges_are_seen.Goals as goal

pub returns : goal.returns
returns c = expunges_are_seen
