use Rattle.imap_world.proofs.ByName.{renames_by_name}
use Rattle.imap_world.proofs.laws.renames_by_name.Goals as goal

pub returns : goal.returns
returns c = renames_by_name
