use Rattle.std.proofs.Common.{◌≡◌, ◌++◌, take}
use Rattle.imap_mailbox.specs.Summary.{uids_in}
use Rattle.imap_mailbox.proofs.restored.push_uids.Given as goal

abbrev pub invariant-loop-message : goal.invariant-loop-message
invariant-loop-message l = l.uids.items ≡ l.fn.uids.items ++ uids_in (take l.message-index l.messages)
