use Rattle.imap_core.proofs.SelectedAgain.{one_list_known}
use Rattle.imap_core.proofs.laws.the_same_is_known_by_one_list.Goals as goal

pub returns : goal.returns
returns c = one_list_known
