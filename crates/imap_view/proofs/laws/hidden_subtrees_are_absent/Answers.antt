use Rattle.imap_view.proofs.HiddenTrees.{trees_absent}
use Rattle.imap_view.proofs.laws.hidden_subtrees_are_absent.Goals as goal

pub returns : goal.returns
returns c = trees_absent c.hidden_is_absent.ensures
