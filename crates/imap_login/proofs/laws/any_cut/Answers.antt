use Rattle.imap_login.proofs.Cutting.{any_cut}
use Rattle.imap_login.proofs.laws.any_cut.Goals as goal

pub returns : goal.returns
returns c = any_cut
