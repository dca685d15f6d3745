use Rattle.imap_session.proofs.Kept.{told_is_there}
use Rattle.imap_session.proofs.laws.told_is_there.Goals as goal

pub returns : goal.returns
returns c = told_is_there
