use Rattle.imap_mailbox.proofs.Few.{few_are_kept}
use Rattle.imap_mailbox.proofs.laws.few_are_kept.Goals as goal

pub returns : goal.returns
returns c = few_are_kept
