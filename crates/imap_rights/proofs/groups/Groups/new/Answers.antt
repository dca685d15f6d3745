use Rattle.imap_rights.proofs.Members.{members_none}
use Rattle.imap_rights.proofs.groups.Groups.new.Goals as goal

pub returns : goal.returns
returns c = members_none c.new.result c.new.ensures
