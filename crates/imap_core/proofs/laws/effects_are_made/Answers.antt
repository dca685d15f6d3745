use Rattle.imap_core.proofs.StepLaws.{effects_made}
use Rattle.imap_core.proofs.laws.effects_are_made.Goals as goal

pub returns : goal.returns
returns c = effects_made
