use Rattle.imap_mailbox.proofs.Isolated.{own_seen_is_seen}
use Rattle.imap_mailbox.proofs.laws.own_seen_is_seen.Goals as goal

pub returns : goal.returns
returns c = own_seen_is_seen
