use Rattle.imap_view.proofs.Inboxes.{others_inboxes}
use Rattle.imap_view.proofs.laws.others_inboxes_are_hidden.Goals as goal

pub returns : goal.returns
returns c = others_inboxes
