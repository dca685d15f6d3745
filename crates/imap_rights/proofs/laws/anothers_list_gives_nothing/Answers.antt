use Rattle.imap_rights.proofs.AnothersList.{anothers}
use Rattle.imap_rights.proofs.laws.anothers_list_gives_nothing.Goals as goal

pub returns : goal.returns
returns c = anothers
