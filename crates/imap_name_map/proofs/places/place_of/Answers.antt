use Rattle.std.proofs.Common.{is_lt, rules}
use Rattle.std.proofs.lemmas.List.Sorted.{IsPartitionPoint-from_clause}
use Rattle.imap_names.specs.Order.{name_cmp}
use Rattle.imap_names.proofs.OrderLaws.{name_total}
use Rattle.imap_name_map.proofs.Cuts.{leading_from_point, partitioned_before, key_cut, holds}
use Rattle.imap_name_map.proofs.places.place_of.Goals as goal

pub returns-clause-place : goal.returns-clause-place
returns-clause-place g c =
    leading_from_point (λ e. is_lt (name_cmp e.0 c.args.name.now)) c.args.entries.now c.partition_point.result c.partition_point.ensures.bound
    (IsPartitionPoint-from_clause (λ e. is_lt (name_cmp e.0 c.args.name.now)) c.args.entries.now c.partition_point.result c.partition_point.ensures.partitioned
    (partitioned_before name_total (λ x. name_cmp x c.args.name.now) (key_cut name_total c.args.name.now) c.args.entries.now (holds c.requires)) (λ a r f' k. search rules))
