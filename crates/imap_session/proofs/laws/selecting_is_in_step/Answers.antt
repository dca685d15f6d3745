use Rattle.imap_session.proofs.AfterNotices.{selecting_is_in_step}
use Rattle.imap_session.proofs.laws.selecting_is_in_step.Goals as goal

pub returns : goal.returns
returns c = selecting_is_in_step
