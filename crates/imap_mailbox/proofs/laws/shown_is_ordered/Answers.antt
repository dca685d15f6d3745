use Rattle.imap_mailbox.proofs.BroughtUp.{shown_is_ordered}
use Rattle.imap_mailbox.proofs.laws.shown_is_ordered.Goals as goal

pub returns : goal.returns
returns c = shown_is_ordered
