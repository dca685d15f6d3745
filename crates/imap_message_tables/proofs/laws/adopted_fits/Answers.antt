use Rattle.imap_message_tables.proofs.Adopted.{adopted_fits}
use Rattle.imap_message_tables.proofs.laws.adopted_fits.Goals as goal

pub returns : goal.returns
returns c = adopted_fits
