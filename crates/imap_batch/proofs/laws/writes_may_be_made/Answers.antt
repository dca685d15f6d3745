use Rattle.imap_batch.proofs.Kept.{writes_may_be_made}
use Rattle.imap_batch.proofs.laws.writes_may_be_made.Goals as goal

pub returns : goal.returns
returns c = writes_may_be_made
