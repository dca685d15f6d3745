use Rattle.imap_session.proofs.Alike.{alike_is_told_alike}
use Rattle.imap_session.proofs.laws.alike_is_told_alike.Goals as goal

pub returns : goal.returns
returns c = alike_is_told_alike
