use Rattle.std.proofs.Common.{◌≡◌, ◌++◌, take}
use Rattle.imap_mailbox.specs.Summary.{gone_uids}
use Rattle.imap_mailbox.proofs.restored.push_gone_uids.Given as goal

abbrev pub invariant-loop-message : goal.invariant-loop-message
invariant-loop-message l = l.uids.items ≡ l.fn.uids.items ++ gone_uids (take l.message-index l.gone)
