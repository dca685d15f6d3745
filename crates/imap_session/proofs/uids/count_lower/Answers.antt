use Rattle.std.proofs.Common.{ℕ, ltb, rules}
use Rattle.std.proofs.lemmas.List.Sorted.{IsPartitionPoint-from_clause, IsPartitionedBy-ltb}
use Rattle.imap_mailbox.specs.Rows.{first_uid}
use Rattle.imap_mailbox.proofs.Finding.{led}
use Rattle.imap_session.specs.Held.{uid_limit}
use Rattle.imap_session.proofs.Finding.{no_decrease}
use Rattle.imap_session.proofs.uids.count_lower.Goals as goal

pub returns-clause-count : goal.returns-clause-count
returns-clause-count c =
    let point = IsPartitionPoint-from_clause (λ (u : ℕ). ltb u c.args.uid) c.args.uids.now c.partition_point.result c.partition_point.ensures.partitioned
    (IsPartitionedBy-ltb (λ (u : ℕ). u) c.args.uids.now c.args.uid (no_decrease first_uid uid_limit c.args.uids.now c.requires)) (λ a r f' k. search rules) in
    led (λ (u : ℕ). ltb u c.args.uid) c.args.uids.now c.partition_point.result c.partition_point.ensures.bound point
