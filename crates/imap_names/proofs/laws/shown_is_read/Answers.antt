use Rattle.imap_names.proofs.ShownLaws.{shown_reads_back}
use Rattle.imap_names.proofs.laws.shown_is_read.Goals as goal

pub returns : goal.returns
returns c = shown_reads_back
