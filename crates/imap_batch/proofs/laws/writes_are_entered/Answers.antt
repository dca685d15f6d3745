use Rattle.imap_batch.proofs.Entering.{writes_are_entered}
use Rattle.imap_batch.proofs.laws.writes_are_entered.Goals as goal

pub returns : goal.returns
returns c = writes_are_entered
