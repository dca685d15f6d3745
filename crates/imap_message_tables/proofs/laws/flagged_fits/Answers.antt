use Rattle.imap_message_tables.proofs.Flagging.{flagged_fits}
use Rattle.imap_message_tables.proofs.laws.flagged_fits.Goals as goal

pub returns : goal.returns
returns c = flagged_fits
