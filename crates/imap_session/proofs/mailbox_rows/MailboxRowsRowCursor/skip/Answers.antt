use Rattle.std.proofs.Common.{drop, sym, ap, ◌∙◌}
use Rattle.std.proofs.lemmas.List.{drop-drop}
use Rattle.imap_session.proofs.mailbox_rows.MailboxRowsRowCursor.skip.Goals as goal

pub returns-then-self-len : goal.returns-then-self-len
returns-then-self-len c = sym (drop-drop 1 c.self.inside.place c.self.inside.rows.now) ∙ ap (drop 1) c.self.view_is
