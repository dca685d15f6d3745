use Rattle.std.proofs.Common.{◌∙◌, ap}
use Rattle.imap_mailbox.specs.Lent.{own_lent}
use Rattle.imap_mailbox.specs.Status.{deleted_in}
use Rattle.imap_mailbox.proofs.Summing.{deleted_shown}
use Rattle.imap_mailbox.proofs.rows.Rows.deleted_len.Goals as goal

pub returns : goal.returns
returns c = c.self.invariant.3.deleted ∙ deleted_shown (own_lent c.self.inside.own) c.self.inside.messages.now.items ∙ ap deleted_in c.self.view_is
