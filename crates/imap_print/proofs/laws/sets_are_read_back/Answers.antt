use Rattle.imap_print.proofs.ReadSets.{sets_are_read_back as read_back}
use Rattle.imap_print.proofs.laws.sets_are_read_back.Goals as goal

pub returns : goal.returns
returns c = read_back c.args.set.now c.as_slice.ensures.valid
