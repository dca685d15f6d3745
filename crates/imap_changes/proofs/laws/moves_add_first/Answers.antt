use Rattle.imap_changes.proofs.Appended.{moves_first}
use Rattle.imap_changes.proofs.laws.moves_add_first.Goals as goal

pub returns : goal.returns
returns c = moves_first
