use Rattle.imap_session.proofs.AfterNotices.{notes_what_is_told}
use Rattle.imap_session.proofs.laws.session_notes_what_is_told.Goals as goal

pub returns : goal.returns
returns c = notes_what_is_told
