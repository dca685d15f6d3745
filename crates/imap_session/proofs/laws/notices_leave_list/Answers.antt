use Rattle.imap_session.proofs.Listed.{notices_leave_list}
use Rattle.imap_session.proofs.laws.notices_leave_list.Goals as goal

pub returns : goal.returns
returns c = notices_leave_list
