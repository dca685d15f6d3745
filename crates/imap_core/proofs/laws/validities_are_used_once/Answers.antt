use Rattle.imap_core.proofs.Histories.{runs_keep_validities}
use Rattle.imap_core.proofs.laws.validities_are_used_once.Goals as goal

pub returns : goal.returns
returns c = runs_keep_validities
