use Rattle.imap_core.proofs.SelectedAgain.{selected_again_alike}
use Rattle.imap_core.proofs.laws.selecting_again_is_alike.Goals as goal

pub returns : goal.returns
returns c = selected_again_alike
