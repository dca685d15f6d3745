use Rattle.imap_mailbox.proofs.BroughtUp.{all_told_is_brought}
use Rattle.imap_mailbox.proofs.laws.all_told_is_brought.Goals as goal

pub returns : goal.returns
returns c = all_told_is_brought
