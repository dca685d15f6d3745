use Rattle.imap_restore.proofs.Split.{one_is_held}
use Rattle.imap_restore.proofs.laws.one_is_held.Goals as goal

pub returns : goal.returns
returns c = one_is_held
