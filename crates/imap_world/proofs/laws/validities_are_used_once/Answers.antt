use Rattle.imap_world.proofs.Histories.{used_once}
use Rattle.imap_world.proofs.laws.validities_are_used_once.Goals as goal

pub returns : goal.returns
returns c = used_once
