use Rattle.imap_core.proofs.StepLaws.{available}
use Rattle.imap_core.proofs.laws.never_unavailable.Goals as goal

pub returns : goal.returns
returns c = available
