use Rattle.imap_login.proofs.Differ.{same_is_equal}
use Rattle.imap_login.proofs.laws.same_is_equal.Goals as goal

pub returns : goal.returns
returns c = same_is_equal
