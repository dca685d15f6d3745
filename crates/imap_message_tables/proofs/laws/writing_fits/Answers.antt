use Rattle.imap_message_tables.proofs.Written.{writing_fits}
use Rattle.imap_message_tables.proofs.laws.writing_fits.Goals as goal

pub returns : goal.returns
returns c = writing_fits
