use Rattle.std.proofs.Common.{ltb, rules}
use Rattle.std.proofs.lemmas.List.Sorted.{IsPartitionPoint-from_clause, IsPartitionedBy-ltb}
use Rattle.imap_mailbox.specs.declared.kept_change.KeptChange.{KeptChange}
use Rattle.imap_mailbox.proofs.Finding.{led}
use Rattle.imap_mailbox.proofs.TableOfLast.{no_decrease}
use Rattle.imap_mailbox.proofs.latest.place_of.Goals as goal

pub returns-clause-place : goal.returns-clause-place
returns-clause-place c =
    led (λ (l : KeptChange). ltb l.uid c.args.uid) c.args.table.now c.partition_point.result c.partition_point.ensures.bound
    (IsPartitionPoint-from_clause (λ (l : KeptChange). ltb l.uid c.args.uid) c.args.table.now c.partition_point.result c.partition_point.ensures.partitioned
    (IsPartitionedBy-ltb (λ (l : KeptChange). l.uid) c.args.table.now c.args.uid (no_decrease c.args.table.now c.requires)) (λ a r f' k. search rules))
