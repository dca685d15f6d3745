use Rattle.imap_message_tables.proofs.Fitting.{fits_one}
use Rattle.imap_message_tables.proofs.laws.fits_one.Goals as goal

pub returns : goal.returns
returns c = fits_one
