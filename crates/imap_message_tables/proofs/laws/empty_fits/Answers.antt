use Rattle.imap_message_tables.proofs.Fitting.{empty_fits}
use Rattle.imap_message_tables.proofs.laws.empty_fits.Goals as goal

pub returns : goal.returns
returns c = empty_fits
