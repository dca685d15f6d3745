use Rattle.imap_view.proofs.Asked.{own_effects_made}
use Rattle.imap_view.proofs.laws.own_effects_are_made.Goals as goal

pub returns : goal.returns
returns c = own_effects_made
