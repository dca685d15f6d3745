use Rattle.imap_message_tables.proofs.Indexed.{indexes_key}
use Rattle.imap_message_tables.proofs.laws.indexes_key.Goals as goal

pub returns : goal.returns
returns c = indexes_key
