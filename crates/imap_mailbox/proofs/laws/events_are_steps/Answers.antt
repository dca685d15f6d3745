use Rattle.imap_mailbox.proofs.Bridge.{events_are_steps}
use Rattle.imap_mailbox.proofs.laws.events_are_steps.Goals as goal

pub returns : goal.returns
returns c = events_are_steps
