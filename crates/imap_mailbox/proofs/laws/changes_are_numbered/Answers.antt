use Rattle.imap_mailbox.proofs.Changes.{changes_are_numbered}
use Rattle.imap_mailbox.proofs.laws.changes_are_numbered.Goals as goal

pub returns : goal.returns
returns c = changes_are_numbered
