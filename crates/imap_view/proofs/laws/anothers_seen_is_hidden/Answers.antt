use Rattle.imap_view.proofs.AnothersSeen.{anothers_seen}
use Rattle.imap_view.proofs.laws.anothers_seen_is_hidden.Goals as goal

pub returns : goal.returns
returns c = anothers_seen
