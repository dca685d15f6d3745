use Rattle.std.proofs.Common.{is_le, rules}
use Rattle.std.proofs.lemmas.List.Sorted.{IsPartitionPoint-from_clause}
use Rattle.imap_names.specs.Order.{run_cmp}
use Rattle.imap_names.proofs.OrderLaws.{name_total, run_apart}
use Rattle.imap_name_map.proofs.Cuts.{leading_from_point, partitioned_up_to, holds}
use Rattle.imap_name_map.proofs.places.end_of.Goals as goal

pub returns-clause-place : goal.returns-clause-place
returns-clause-place g c =
    leading_from_point (λ e. is_le (run_cmp e.0 c.args.top.now)) c.args.entries.now c.partition_point.result c.partition_point.ensures.bound
    (IsPartitionPoint-from_clause (λ e. is_le (run_cmp e.0 c.args.top.now)) c.args.entries.now c.partition_point.result c.partition_point.ensures.partitioned
    (partitioned_up_to name_total (λ x. run_cmp x c.args.top.now) (run_apart c.args.top.now) c.args.entries.now (holds c.requires)) (λ a r f' k. search rules))
