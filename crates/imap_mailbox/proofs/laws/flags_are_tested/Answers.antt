use Rattle.imap_mailbox.proofs.Sameness.{flags_are_tested}
use Rattle.imap_mailbox.proofs.laws.flags_are_tested.Goals as goal

pub returns : goal.returns
returns c = flags_are_tested
