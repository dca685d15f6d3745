use Rattle.imap_mailbox.proofs.Short.{rows_stay_few}
use Rattle.imap_mailbox.proofs.laws.rows_stay_few.Goals as goal

pub returns : goal.returns
returns c = rows_stay_few
