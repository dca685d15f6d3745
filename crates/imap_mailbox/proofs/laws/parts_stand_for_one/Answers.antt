use Rattle.imap_mailbox.proofs.OneMailbox.{stand_for_one}
use Rattle.imap_mailbox.proofs.laws.parts_stand_for_one.Goals as goal

pub returns : goal.returns
returns c = stand_for_one
