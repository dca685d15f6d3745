use Rattle.imap_mailbox.proofs.BroughtUp.{events_are_later}
use Rattle.imap_mailbox.proofs.laws.events_are_later.Goals as goal

pub returns : goal.returns
returns c = events_are_later
