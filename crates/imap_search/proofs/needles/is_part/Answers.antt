use Rattle.imap_search.proofs.Within.{same_test}
use Rattle.imap_search.proofs.needles.is_part.Goals as goal

pub returns : goal.returns
returns c = same_test c.is_in.result c.args.part.now c.args.text.now c.is_in.ensures
