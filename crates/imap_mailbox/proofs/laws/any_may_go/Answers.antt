use Rattle.imap_mailbox.proofs.Found.{any_may_go}
use Rattle.imap_mailbox.proofs.laws.any_may_go.Goals as goal

pub returns : goal.returns
returns c = any_may_go
