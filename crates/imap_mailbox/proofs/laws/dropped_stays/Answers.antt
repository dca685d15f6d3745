use Rattle.imap_mailbox.proofs.Changes.{dropped_stays}
use Rattle.imap_mailbox.proofs.laws.dropped_stays.Goals as goal

pub returns : goal.returns
returns c = dropped_stays
