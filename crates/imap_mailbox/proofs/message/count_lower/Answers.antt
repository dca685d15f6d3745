use Rattle.std.proofs.Common.{ltb, rules}
use Rattle.std.proofs.lemmas.List.Sorted.{IsPartitionPoint-from_clause, IsPartitionedBy-ltb}
use Rattle.imap_mailbox.specs.declared.message.Message.{Message}
use Rattle.imap_mailbox.proofs.Finding.{no_decrease, led}
use Rattle.imap_mailbox.proofs.message.count_lower.Goals as goal

pub returns-clause-point : goal.returns-clause-point
returns-clause-point c =
    IsPartitionPoint-from_clause (λ (k : Message). ltb k.uid c.args.uid) c.args.messages.now c.partition_point.result c.partition_point.ensures.partitioned
    (IsPartitionedBy-ltb (λ (k : Message). k.uid) c.args.messages.now c.args.uid (no_decrease c.requires.0 c.requires.1 c.args.messages.now c.requires.2)) (λ a r f' k. search rules)

pub returns-clause-count : goal.returns-clause-count
returns-clause-count c = led (λ (k : Message). ltb k.uid c.args.uid) c.args.messages.now c.partition_point.result c.partition_point.ensures.bound (returns-clause-point c)
