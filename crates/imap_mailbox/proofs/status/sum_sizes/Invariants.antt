use Rattle.std.proofs.Common.{◌≡◌, ◌+◌, ◌≤◌, drop, length}
use Rattle.std.specs.Prelude.{min}
use Rattle.std.specs.List.{sum_by}
use Rattle.imap_mailbox.specs.declared.message.Message.{Message}
use Rattle.imap_mailbox.specs.Status.{max_size}
use Rattle.imap_mailbox.proofs.status.sum_sizes.Given as goal

abbrev pub invariant-loop-message : goal.invariant-loop-message
invariant-loop-message l = record {
  most : l.size ≤ max_size;
  total : min max_size (l.size + sum_by (λ (m : Message). length m.octets) (drop l.message-index l.messages)) ≡ min max_size (sum_by (λ (m : Message). length m.octets) l.messages);
}
