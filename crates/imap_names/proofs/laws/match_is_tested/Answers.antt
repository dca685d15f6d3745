use Rattle.imap_names.proofs.MatchLaws.{match_tested}
use Rattle.imap_names.proofs.laws.match_is_tested.Goals as goal

pub returns : goal.returns
returns c = match_tested
