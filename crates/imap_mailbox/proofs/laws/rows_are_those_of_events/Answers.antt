use Rattle.imap_mailbox.proofs.Bridge.{rows_are_those_of_events}
use Rattle.imap_mailbox.proofs.laws.rows_are_those_of_events.Goals as goal

pub returns : goal.returns
returns c = rows_are_those_of_events
