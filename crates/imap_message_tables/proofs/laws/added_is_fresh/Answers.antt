use Rattle.imap_message_tables.proofs.Indexed.{added_is_fresh}
use Rattle.imap_message_tables.proofs.laws.added_is_fresh.Goals as goal

pub returns : goal.returns
returns c = added_is_fresh
