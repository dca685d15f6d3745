use Rattle.imap_view.proofs.Afters.{others_subscriptions}
use Rattle.imap_view.proofs.laws.others_subscriptions_are_hidden.Goals as goal

pub returns : goal.returns
returns c = others_subscriptions
