use Rattle.std.proofs.Common.{is_le, rules}
use Rattle.std.proofs.lemmas.List.Sorted.{IsPartitionPoint-from_clause}
use Rattle.std.specs.Ordering.{int_cmp}
use Rattle.imap_restore.proofs.Grouped.{low_first, own_first}
use Rattle.imap_restore.proofs.grouping.count_own.Goals as goal

pub returns-clause-own : goal.returns-clause-own
returns-clause-own g c =
    own_first g.T.Restore.mailbox c.args.id c.args.rows.now c.partition_point.result c.partition_point.ensures.bound c.requires.from
    (IsPartitionPoint-from_clause (λ (row : g.row.R.Denot). is_le (int_cmp (g.T.Restore.mailbox row) c.args.id)) c.args.rows.now c.partition_point.result c.partition_point.ensures.partitioned
    (low_first g.T.Restore.mailbox c.args.id c.args.rows.now c.requires.grouped) (λ a r f k. search rules))
