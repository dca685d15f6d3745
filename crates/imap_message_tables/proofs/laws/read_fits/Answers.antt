use Rattle.imap_message_tables.proofs.Rejoined.{read_fits}
use Rattle.imap_message_tables.proofs.laws.read_fits.Goals as goal

pub returns : goal.returns
returns c = read_fits
