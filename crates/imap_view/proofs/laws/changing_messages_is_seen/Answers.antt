use Rattle.imap_view.proofs.Changing.{changing_messages}
use Rattle.imap_view.proofs.laws.changing_messages_is_seen.Goals as goal

pub returns : goal.returns
returns c = changing_messages
