use Rattle.imap_core.proofs.InStep.{all_stay_in_step}
use Rattle.imap_core.proofs.laws.sessions_stay_in_step.Goals as goal

pub returns : goal.returns
returns c = all_stay_in_step
