use Rattle.imap_view.proofs.Asked.{own_effects}
use Rattle.imap_view.proofs.laws.own_effects_are_seen.Goals as goal

pub returns : goal.returns
returns c = own_effects
