use Rattle.imap_batch.proofs.Sights.{possible_is_made}
use Rattle.imap_batch.proofs.laws.possible_is_made.Goals as goal

pub returns : goal.returns
returns c = possible_is_made
