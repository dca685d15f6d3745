use Rattle.imap_mailbox.proofs.Following.{all_rows_follow}
use Rattle.imap_mailbox.proofs.laws.all_rows_follow.Goals as goal

pub returns : goal.returns
returns c = all_rows_follow
