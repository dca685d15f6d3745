use Rattle.std.proofs.Common.{◌≡◌, take, length}
use Rattle.std.specs.Vec.{vec_capacity}
use Rattle.imap_mailbox.proofs.copies.copy_messages.Given as goal

abbrev pub invariant-loop-message : goal.invariant-loop-message
invariant-loop-message l = record {
  items : l.copies.items ≡ take l.message-index l.messages;
  capacity : vec_capacity l.copies ≡ length l.messages;
}
