use Rattle.imap_serve.proofs.Alike.{from_exchanges, from_replies}
use Rattle.imap_serve.proofs.laws.told_from_exchanges.Goals as goal

pub returns : goal.returns
returns g c = record { exchanges = from_exchanges g.D.Dialect.telling; replies = from_replies g.D.Dialect.telling }
