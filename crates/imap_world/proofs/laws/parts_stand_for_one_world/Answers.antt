use Rattle.imap_world.proofs.OneOfParts.{stand_for_one}
use Rattle.imap_world.proofs.laws.parts_stand_for_one_world.Goals as goal

pub returns : goal.returns
returns c = stand_for_one
