use Rattle.imap_session.proofs.AllThere.{none_first}
use Rattle.imap_session.proofs.mailbox_rows.len_there.Goals as goal

pub returns-clause-there : goal.returns-clause-there
returns-clause-there c = λ number agree. none_first _ _
