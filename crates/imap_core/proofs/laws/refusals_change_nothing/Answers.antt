use Rattle.imap_core.proofs.StepLaws.{refusals_change}
use Rattle.imap_core.proofs.laws.refusals_change_nothing.Goals as goal

pub returns : goal.returns
returns c = refusals_change
