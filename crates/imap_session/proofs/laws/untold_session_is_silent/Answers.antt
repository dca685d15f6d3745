use Rattle.imap_session.proofs.AfterNotices.{untold_is_silent}
use Rattle.imap_session.proofs.laws.untold_session_is_silent.Goals as goal

pub returns : goal.returns
returns c = untold_is_silent
