use Rattle.imap_session.proofs.Following.{client_holds_mailbox}
use Rattle.imap_session.proofs.laws.client_holds_mailbox.Goals as goal

pub returns : goal.returns
returns c = client_holds_mailbox
