use Rattle.imap_mailbox.proofs.Bridge.{gone_are_those_of_events}
use Rattle.imap_mailbox.proofs.laws.gone_are_those_of_events.Goals as goal

pub returns : goal.returns
returns c = gone_are_those_of_events
