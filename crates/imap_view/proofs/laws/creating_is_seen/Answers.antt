use Rattle.imap_view.proofs.Creating.{creating}
use Rattle.imap_view.proofs.laws.creating_is_seen.Goals as goal

pub returns : goal.returns
returns c = creating
