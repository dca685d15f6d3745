use Rattle.imap_mailbox.proofs.Admitted.{summaries_are_admitted}
use Rattle.imap_mailbox.proofs.laws.summaries_are_admitted.Goals as goal

pub returns : goal.returns
returns c = summaries_are_admitted
