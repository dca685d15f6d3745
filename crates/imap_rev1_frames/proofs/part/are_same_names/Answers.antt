use Rattle.imap_rev1_frames.proofs.SameNames.{names_compared}
use Rattle.imap_rev1_frames.proofs.part.are_same_names.Goals as goal

pub returns : goal.returns
returns c = names_compared c.args.names.now c.args.others.now c.is_same.result c.is_same.ensures
