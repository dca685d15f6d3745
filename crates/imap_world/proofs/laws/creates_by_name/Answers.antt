use Rattle.imap_world.proofs.ByName.{creates_by_name}
use Rattle.imap_world.proofs.laws.creates_by_name.Goals as goal

pub returns : goal.returns
returns c = creates_by_name
