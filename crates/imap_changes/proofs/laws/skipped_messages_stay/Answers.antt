use Rattle.imap_changes.proofs.Skipped.{skipped_stay}
use Rattle.imap_changes.proofs.laws.skipped_messages_stay.Goals as goal

pub returns : goal.returns
returns c = skipped_stay
