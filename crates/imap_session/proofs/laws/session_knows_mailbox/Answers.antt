use Rattle.imap_mailbox.specs.Rows.{first_uid}
use Rattle.imap_session.specs.Held.{uid_limit}
use Rattle.imap_session.specs.State.{selection_of}
use Rattle.imap_session.proofs.AfterNotices.{notices_tell_selection}
use Rattle.imap_session.proofs.laws.session_knows_mailbox.Goals as goal

pub returns : goal.returns
returns c = λ o highest rows may most.
    notices_tell_selection o highest rows (selection_of c.args.selected.now) may (first_uid, uid_limit, c.len.ensures.valid) most
