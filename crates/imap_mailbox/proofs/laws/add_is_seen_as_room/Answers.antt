use Rattle.imap_mailbox.proofs.Isolated.{add_is_seen_as_room}
use Rattle.imap_mailbox.proofs.laws.add_is_seen_as_room.Goals as goal

pub returns : goal.returns
returns c = add_is_seen_as_room
