use Rattle.imap_names.proofs.MatchLaws.{percent_tested}
use Rattle.imap_names.proofs.laws.percent_is_tested.Goals as goal

pub returns : goal.returns
returns c = percent_tested
