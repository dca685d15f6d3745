use Rattle.imap_mailbox.proofs.DecidedShown.{decided_is_seen}
use Rattle.imap_mailbox.proofs.laws.decided_is_seen.Goals as goal

pub returns : goal.returns
returns c = decided_is_seen
