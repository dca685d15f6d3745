use Rattle.imap_mailbox.proofs.Following.{rows_follow}
use Rattle.imap_mailbox.proofs.laws.rows_follow.Goals as goal

pub returns : goal.returns
returns c = rows_follow
