use Rattle.imap_session.proofs.Differing.{all_known_is_quiet}
use Rattle.imap_session.proofs.laws.all_known_is_quiet.Goals as goal

pub returns : goal.returns
returns c = all_known_is_quiet
