use Rattle.imap_world.proofs.Parts.{same_by_test}
use Rattle.imap_world.proofs.messages.is_same_name.Goals as goal

pub returns : goal.returns
returns c = same_by_test c.args.name.now c.args.other.now c.is_same.result c.is_same.ensures
