use Rattle.imap_message_tables.proofs.Copied.{rows_are_copied}
use Rattle.imap_message_tables.proofs.laws.rows_are_copied.Goals as goal

pub returns : goal.returns
returns c = rows_are_copied
