use Rattle.imap_session.proofs.Listed.{notices_by_list}
use Rattle.imap_session.proofs.laws.notices_are_by_list.Goals as goal

pub returns : goal.returns
returns c = notices_by_list
