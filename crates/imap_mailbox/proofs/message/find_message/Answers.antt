use Rattle.std.proofs.Common.{sym}
use Rattle.imap_mailbox.proofs.Finding.{search_found, search_past, search_other}
use Rattle.imap_mailbox.proofs.message.find_message.Goals.{else-place-messages-via-then-place-messages+else-messages-place, else-place-messages-via-else-place-messages}
use Rattle.imap_mailbox.proofs.message.find_message.Goals as goal

pub returns-then-messages-place : goal.returns-then-messages-place
returns-then-messages-place c =
    sym (search_found c.args.uid c.requires.0 c.requires.1 c.args.messages.now c.count_lower-place.result c.requires.2 c.count_lower-place.ensures.point c.index-messages-place.result c.if-place-messages.true c.if-messages-place.true)

pub returns-else-place-messages : goal.returns-else-place-messages
returns-else-place-messages c =
    elim c.else-place-messages.branch [
      | else-place-messages-via-then-place-messages+else-messages-place w ↦ sym (search_other c.args.uid c.requires.0 c.requires.1 c.args.messages.now c.count_lower-place.result c.requires.2 c.count_lower-place.ensures.point w.index-messages-place.result w.if-place-messages.true w.if-messages-place.false)
      | else-place-messages-via-else-place-messages w ↦ sym (search_past c.args.uid c.requires.0 c.requires.1 c.args.messages.now c.count_lower-place.result c.requires.2 c.count_lower-place.ensures.point w.if-place-messages.false)
    ]
