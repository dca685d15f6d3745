use Rattle.imap_lex.proofs.Runs.{run-append}
use Rattle.imap_lex.proofs.laws.any_cut.Goals as goal

pub returns : goal.returns
returns c = run-append
