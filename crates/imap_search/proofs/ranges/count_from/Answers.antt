use Rattle.std.proofs.Common.{leb, rules}
use Rattle.std.proofs.lemmas.List.Sorted.{IsPartitionPoint-from_clause, IsPartitionedBy-leb}
use Rattle.imap_search.specs.declared.ranges.NumberRange.{NumberRange}
use Rattle.imap_search.proofs.ranges.count_from.Goals as goal

pub returns-clause-point : goal.returns-clause-point
returns-clause-point c =
    IsPartitionPoint-from_clause (λ (r : NumberRange). leb r.low c.args.number) c.args.ranges.now c.partition_point.result c.partition_point.ensures.partitioned
    (IsPartitionedBy-leb (λ (r : NumberRange). r.low) c.args.ranges.now c.args.number c.requires) (λ a r f' k. search rules)
