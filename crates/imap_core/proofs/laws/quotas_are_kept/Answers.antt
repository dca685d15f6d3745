use Rattle.imap_core.proofs.Quotas.{quotas_kept}
use Rattle.imap_core.proofs.laws.quotas_are_kept.Goals as goal

pub returns : goal.returns
returns c = quotas_kept
