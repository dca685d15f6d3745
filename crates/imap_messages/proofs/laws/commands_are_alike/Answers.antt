use Rattle.imap_messages.proofs.Fitting.{append_alike, fetch_alike}
use Rattle.imap_messages.proofs.laws.commands_are_alike.Goals as goal

pub returns-clause-append : goal.returns-clause-append
returns-clause-append c = append_alike

pub returns-clause-fetch : goal.returns-clause-fetch
returns-clause-fetch c = fetch_alike
