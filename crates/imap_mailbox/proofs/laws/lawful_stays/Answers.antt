use Rattle.imap_mailbox.proofs.Lawful.{lawful_stays}
use Rattle.imap_mailbox.proofs.laws.lawful_stays.Goals as goal

pub returns : goal.returns
returns c = lawful_stays
