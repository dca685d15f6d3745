use Rattle.imap_batch.proofs.Sights.{batch_is_seen}
use Rattle.imap_batch.proofs.laws.batch_is_seen.Goals as goal

pub returns : goal.returns
returns c = batch_is_seen
