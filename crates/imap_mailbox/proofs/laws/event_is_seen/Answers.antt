use Rattle.imap_mailbox.proofs.Isolated.{event_is_seen}
use Rattle.imap_mailbox.proofs.laws.event_is_seen.Goals as goal

pub returns : goal.returns
returns c = event_is_seen
