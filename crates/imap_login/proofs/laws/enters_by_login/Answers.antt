use Rattle.imap_login.proofs.Entering.{enters_by_login}
use Rattle.imap_login.proofs.laws.enters_by_login.Goals as goal

pub returns : goal.returns
returns c = enters_by_login
