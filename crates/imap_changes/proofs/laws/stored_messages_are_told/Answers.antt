use Rattle.imap_changes.proofs.ToldLeft.{told_as_left}
use Rattle.imap_changes.proofs.laws.stored_messages_are_told.Goals as goal

pub returns : goal.returns
returns c = told_as_left
