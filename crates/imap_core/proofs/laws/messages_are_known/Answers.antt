use Rattle.imap_core.proofs.MessagesKnown.{messages_known}
use Rattle.imap_core.proofs.laws.messages_are_known.Goals as goal

pub returns : goal.returns
returns c = messages_known
