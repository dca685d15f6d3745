use Rattle.imap_core.proofs.SelectedAgain.{known_is_alike}
use Rattle.imap_core.proofs.laws.same_knowledge_is_alike.Goals as goal

pub returns : goal.returns
returns c = known_is_alike
