use Rattle.imap_messages.proofs.Told.{fetched_are_told}
use Rattle.imap_messages.proofs.laws.fetched_messages_are_told.Goals as goal

pub returns : goal.returns
returns c = fetched_are_told
