use Rattle.imap_mailbox.proofs.Isolated.{anothers_seen_is_hidden}
use Rattle.imap_mailbox.proofs.laws.another_seen_is_hidden.Goals as goal

pub returns : goal.returns
returns c = anothers_seen_is_hidden
