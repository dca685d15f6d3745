use Rattle.std.proofs.Common.{arith}
use Rattle.imap_mailbox.proofs.Finding.{found_in_messages}
use Rattle.imap_mailbox.proofs.message.find_from.Goals as goal

pub returns-then-messages-place : goal.returns-then-messages-place
returns-then-messages-place c =
    found_in_messages c.args.uid c.requires.0 c.requires.1 c.args.messages.now _ c.index-messages-place.result c.requires.2 (omega arith) c.if-messages-place.true
