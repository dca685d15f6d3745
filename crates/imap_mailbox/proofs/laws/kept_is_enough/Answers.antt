use Rattle.imap_mailbox.proofs.KeptShown.{kept_is_enough}
use Rattle.imap_mailbox.proofs.laws.kept_is_enough.Goals as goal

pub returns : goal.returns
returns c = kept_is_enough
