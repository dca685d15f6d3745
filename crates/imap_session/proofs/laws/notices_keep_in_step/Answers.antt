use Rattle.imap_session.proofs.Kept.{notices_keep_in_step}
use Rattle.imap_session.proofs.laws.notices_keep_in_step.Goals as goal

pub returns : goal.returns
returns c = notices_keep_in_step
