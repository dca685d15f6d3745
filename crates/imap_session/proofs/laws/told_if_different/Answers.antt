use Rattle.imap_session.proofs.Differing.{told_if_different}
use Rattle.imap_session.proofs.laws.told_if_different.Goals as goal

pub returns : goal.returns
returns c = told_if_different
