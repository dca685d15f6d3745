use Rattle.imap_message_tables.proofs.Flagging.{removed_fits}
use Rattle.imap_message_tables.proofs.laws.removed_fits.Goals as goal

pub returns : goal.returns
returns c = removed_fits
