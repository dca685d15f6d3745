use Rattle.imap_changes.proofs.Appended.{copies_appended}
use Rattle.imap_changes.proofs.laws.copies_are_appended.Goals as goal

pub returns : goal.returns
returns c = copies_appended
