use Rattle.imap_message_tables.proofs.Adding.{added_fits}
use Rattle.imap_message_tables.proofs.laws.added_fits.Goals as goal

pub returns : goal.returns
returns c = added_fits
