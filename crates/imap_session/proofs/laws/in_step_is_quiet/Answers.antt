use Rattle.imap_session.proofs.Quieting.{in_step_is_quiet}
use Rattle.imap_session.proofs.laws.in_step_is_quiet.Goals as goal

pub returns : goal.returns
returns c = in_step_is_quiet
