use Rattle.imap_mailbox.proofs.Client.{client_is_brought_up}
use Rattle.imap_mailbox.proofs.laws.client_is_brought_up.Goals as goal

pub returns : goal.returns
returns c = client_is_brought_up
