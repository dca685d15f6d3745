use Rattle.imap_rights.proofs.Members.{any_order}
use Rattle.imap_rights.proofs.laws.order_of_members_is_lost.Goals as goal

pub returns : goal.returns
returns c = any_order
