use Rattle.imap_core.proofs.Quiet.{same_views}
use Rattle.imap_core.proofs.laws.equal_views_are_same.Goals as goal

pub returns : goal.returns
returns c = same_views
