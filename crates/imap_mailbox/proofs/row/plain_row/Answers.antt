use Rattle.imap_mailbox.proofs.Joined.{plain_shown}
use Rattle.imap_mailbox.proofs.row.plain_row.Goals as goal

pub returns : goal.returns
returns c = plain_shown c.args.message.now c.number_after.result c.number_after.ensures
