use Rattle.imap_upcoming.proofs.Staying.{own_changes_keep}
use Rattle.imap_upcoming.proofs.laws.own_changes_keep_in_step.Goals as goal

pub returns : goal.returns
returns c = own_changes_keep
