use Rattle.imap_world.proofs.Fresh.{current_is_fresh}
use Rattle.imap_world.proofs.laws.current_changes_are_fresh.Goals as goal

pub returns : goal.returns
returns c = current_is_fresh
