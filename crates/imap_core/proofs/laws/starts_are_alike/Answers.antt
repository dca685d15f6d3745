use Rattle.imap_core.proofs.StartsAlike.{starts_alike}
use Rattle.imap_core.proofs.laws.starts_are_alike.Goals as goal

pub returns : goal.returns
returns c = starts_alike c.others_inboxes_are_hidden.ensures c.creating_is_seen.ensures c.hidden_is_absent.ensures
