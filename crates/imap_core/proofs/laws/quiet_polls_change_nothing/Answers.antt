use Rattle.imap_core.proofs.Quiet.{quiet_unchanged}
use Rattle.imap_core.proofs.laws.quiet_polls_change_nothing.Goals as goal

pub returns : goal.returns
returns c = quiet_unchanged
