use Rattle.imap_batch.proofs.Events.{batches_are_events}
use Rattle.imap_batch.proofs.laws.batches_are_events.Goals as goal

pub returns : goal.returns
returns c = batches_are_events
