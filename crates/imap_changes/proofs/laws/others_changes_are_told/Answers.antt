use Rattle.imap_changes.proofs.ToldLeft.{told_by_any}
use Rattle.imap_changes.proofs.laws.others_changes_are_told.Goals as goal

pub returns : goal.returns
returns c = told_by_any
