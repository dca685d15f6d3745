use Rattle.imap_core.proofs.Histories.{runs_grow_messages}
use Rattle.imap_core.proofs.laws.messages_grow.Goals as goal

pub returns : goal.returns
returns c = runs_grow_messages
