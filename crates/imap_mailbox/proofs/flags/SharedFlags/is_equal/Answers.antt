use Rattle.imap_mailbox.proofs.Sameness.{said}
use Rattle.imap_mailbox.proofs.flags.SharedFlags.is_equal.Goals as goal

pub returns : goal.returns
returns c = said c.is_same.result c.args.self.now c.args.other.now c.is_same.ensures
