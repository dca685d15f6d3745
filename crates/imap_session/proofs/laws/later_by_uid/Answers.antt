use Rattle.imap_session.proofs.ByUid.{later_by_uid}
use Rattle.imap_session.proofs.laws.later_by_uid.Goals as goal

pub returns : goal.returns
returns c = later_by_uid
