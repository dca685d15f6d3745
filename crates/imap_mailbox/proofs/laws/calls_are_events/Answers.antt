use Rattle.imap_mailbox.proofs.CallEvents.{calls_are_events}
use Rattle.imap_mailbox.proofs.laws.calls_are_events.Goals as goal

pub returns : goal.returns
returns c = calls_are_events
