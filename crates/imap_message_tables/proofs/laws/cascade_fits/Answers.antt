use Rattle.imap_message_tables.proofs.Cascading.{cascade_fits}
use Rattle.imap_message_tables.proofs.laws.cascade_fits.Goals as goal

pub returns : goal.returns
returns c = cascade_fits
