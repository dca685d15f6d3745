use Rattle.imap_mailbox.proofs.BroughtUp.{seen_is_later}
use Rattle.imap_mailbox.proofs.laws.seen_is_later.Goals as goal

pub returns : goal.returns
returns c = seen_is_later
