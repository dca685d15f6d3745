use Rattle.imap_resync.proofs.Following.{client_is_brought_up}
use Rattle.imap_resync.proofs.laws.client_is_brought_up.Goals as goal

pub returns : goal.returns
returns c = client_is_brought_up
