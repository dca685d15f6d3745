use Rattle.std.proofs.Common.{is_lt, rules}
use Rattle.std.proofs.lemmas.List.Sorted.{IsPartitionPoint-from_clause}
use Rattle.std.specs.Ordering.{int_cmp}
use Rattle.imap_restore.proofs.Grouped.{lower_first}
use Rattle.imap_restore.proofs.grouping.count_lower.Goals as goal

pub returns-clause-point : goal.returns-clause-point
returns-clause-point g c =
    IsPartitionPoint-from_clause (λ (row : g.row.R.Denot). is_lt (int_cmp (g.T.Restore.mailbox row) c.args.id)) c.args.rows.now c.partition_point.result c.partition_point.ensures.partitioned
    (lower_first g.T.Restore.mailbox c.args.id c.args.rows.now c.requires) (λ a r f k. search rules)
