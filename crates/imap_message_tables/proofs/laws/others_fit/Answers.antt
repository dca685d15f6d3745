use Rattle.imap_message_tables.proofs.Elsewhere.{others_fit}
use Rattle.imap_message_tables.proofs.laws.others_fit.Goals as goal

pub returns : goal.returns
returns c = others_fit
