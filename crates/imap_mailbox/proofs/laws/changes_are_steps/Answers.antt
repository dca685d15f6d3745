use Rattle.imap_mailbox.proofs.Bridge.{changes_are_steps}
use Rattle.imap_mailbox.proofs.laws.changes_are_steps.Goals as goal

pub returns : goal.returns
returns c = changes_are_steps
