use Rattle.imap_core.proofs.Starting.{starts_so}
use Rattle.imap_core.proofs.laws.starts_with_inboxes.Goals as goal

pub returns : goal.returns
returns c = starts_so
