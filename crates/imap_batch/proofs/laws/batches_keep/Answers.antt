use Rattle.imap_batch.proofs.Kept.{batches_keep}
use Rattle.imap_batch.proofs.laws.batches_keep.Goals as goal

pub returns : goal.returns
returns c = batches_keep
