use Rattle.imap_rights.proofs.Members.{those_added}
use Rattle.imap_rights.proofs.laws.members_are_those_added.Goals as goal

pub returns : goal.returns
returns c = those_added
