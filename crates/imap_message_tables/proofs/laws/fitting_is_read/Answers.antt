use Rattle.imap_message_tables.proofs.Loaded.{fitting_is_read}
use Rattle.imap_message_tables.proofs.laws.fitting_is_read.Goals as goal

pub returns : goal.returns
returns c = fitting_is_read
