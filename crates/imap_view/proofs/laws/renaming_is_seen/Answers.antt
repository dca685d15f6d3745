use Rattle.imap_view.proofs.Renaming.{renaming}
use Rattle.imap_view.proofs.laws.renaming_is_seen.Goals as goal

pub returns : goal.returns
returns c = renaming
