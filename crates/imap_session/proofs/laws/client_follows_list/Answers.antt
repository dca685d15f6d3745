use Rattle.imap_session.proofs.Listed.{client_follows_list}
use Rattle.imap_session.proofs.laws.client_follows_list.Goals as goal

pub returns : goal.returns
returns c = client_follows_list
