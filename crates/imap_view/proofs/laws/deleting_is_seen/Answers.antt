use Rattle.imap_view.proofs.Deleting.{deleting}
use Rattle.imap_view.proofs.laws.deleting_is_seen.Goals as goal

pub returns : goal.returns
returns c = deleting
