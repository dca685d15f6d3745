use Rattle.imap_service.proofs.Openings.{any_cut}
use Rattle.imap_service.proofs.laws.any_cut.Goals as goal

pub returns : goal.returns
returns c = any_cut
