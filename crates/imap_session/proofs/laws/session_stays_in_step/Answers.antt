use Rattle.imap_session.proofs.AfterNotices.{notices_keep_selection_in_step}
use Rattle.imap_session.proofs.laws.session_stays_in_step.Goals as goal

pub returns : goal.returns
returns c = notices_keep_selection_in_step
