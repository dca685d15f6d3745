use Rattle.imap_text.proofs.Shortest.{headers_are_shortest}
use Rattle.imap_text.proofs.laws.headers_are_shortest.Goals as goal

pub returns : goal.returns
returns c = headers_are_shortest
