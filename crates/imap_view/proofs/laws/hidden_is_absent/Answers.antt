use Rattle.imap_view.proofs.Afters.{hidden_absent}
use Rattle.imap_view.proofs.laws.hidden_is_absent.Goals as goal

pub returns : goal.returns
returns c = hidden_absent
