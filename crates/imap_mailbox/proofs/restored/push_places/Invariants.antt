use Rattle.std.proofs.Common.{◌≡◌, ◌++◌, take}
use Rattle.imap_mailbox.specs.Summary.{message_places}
use Rattle.imap_mailbox.proofs.restored.push_places.Given as goal

abbrev pub invariant-loop-message : goal.invariant-loop-message
invariant-loop-message l = l.places.items ≡ l.fn.places.items ++ message_places (take l.message-index l.messages)
