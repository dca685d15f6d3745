use Rattle.imap_print.proofs.Quoting.{names_are_read_back as read_back}
use Rattle.imap_print.proofs.laws.names_are_read_back.Goals as goal

pub returns : goal.returns
returns c = read_back
