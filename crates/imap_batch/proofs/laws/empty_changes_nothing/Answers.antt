use Rattle.imap_batch.proofs.Sights.{empty_changes_nothing}
use Rattle.imap_batch.proofs.laws.empty_changes_nothing.Goals as goal

pub returns : goal.returns
returns c = empty_changes_nothing
