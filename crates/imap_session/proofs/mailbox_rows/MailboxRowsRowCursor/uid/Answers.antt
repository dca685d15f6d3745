use Rattle.std.proofs.Common.{◌∙◌}
use Rattle.imap_session.proofs.Unchanged.{first_at}
use Rattle.imap_session.proofs.mailbox_rows.MailboxRowsRowCursor.uid.Goals as goal

pub returns : goal.returns
returns c = λ r later is. let p = c.self.inside in c.uid.ensures r (first_at p.rows.now p.place r later (c.self.view_is ∙ is))
