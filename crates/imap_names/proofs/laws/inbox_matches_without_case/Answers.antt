use Rattle.imap_names.proofs.CaseLaws.{inbox_without_case}
use Rattle.imap_names.proofs.laws.inbox_matches_without_case.Goals as goal

pub returns : goal.returns
returns c = inbox_without_case
