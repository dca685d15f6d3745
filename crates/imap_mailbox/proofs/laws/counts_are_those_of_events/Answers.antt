use Rattle.imap_mailbox.proofs.Bridge.{counts_are_those_of_events}
use Rattle.imap_mailbox.proofs.laws.counts_are_those_of_events.Goals as goal

pub returns : goal.returns
returns c = counts_are_those_of_events
