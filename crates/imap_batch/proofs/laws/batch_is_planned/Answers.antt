use Rattle.imap_batch.proofs.Planning.{batch_is_planned}
use Rattle.imap_batch.proofs.laws.batch_is_planned.Goals as goal

pub returns : goal.returns
returns c = batch_is_planned
