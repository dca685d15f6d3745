use Rattle.imap_mailbox.specs.Rows.{first_uid}
use Rattle.imap_session.specs.Held.{uid_limit}
use Rattle.imap_session.proofs.Applying.{changes_are_applied}
use Rattle.imap_session.proofs.laws.changes_are_applied.Goals as goal

pub returns : goal.returns
returns c = λ o rows. changes_are_applied o c.args.known.now.list rows (first_uid, uid_limit, c.len.ensures.valid)
