use Rattle.imap_batch.proofs.Sights.{anothers_batch_is_hidden}
use Rattle.imap_batch.proofs.laws.anothers_batch_is_hidden.Goals as goal

pub returns : goal.returns
returns c = anothers_batch_is_hidden
