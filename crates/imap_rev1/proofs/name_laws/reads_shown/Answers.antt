use Rattle.imap_rev1.proofs.Told.{reads_shown}
use Rattle.imap_rev1.proofs.name_laws.reads_shown.Goals as goal

pub returns : goal.returns
returns c = reads_shown
