use Rattle.std.proofs.Common.{◌≡◌, ◌+◌, ◌≤◌, drop}
use Rattle.std.specs.Prelude.{count_by}
use Rattle.imap_mailbox.specs.declared.message.Message.{Message}
use Rattle.imap_mailbox.proofs.status.count_deleted.Given as goal

abbrev pub invariant-loop-message : goal.invariant-loop-message
invariant-loop-message l = record {
  most : l.count ≤ l.message-index;
  total : l.count + count_by (λ (m : Message). m.flags.deleted) (drop l.message-index l.messages) ≡ count_by (λ (m : Message). m.flags.deleted) l.messages;
}
