use Rattle.std.proofs.Common.{◌≡◌, drop}
use Rattle.std.specs.BTreeSet as sorted
use Rattle.std.specs.List.{list_all}
use Rattle.std.specs.Ordering.{int_cmp}
use Rattle.imap_restore.proofs.parts.are_known.Given as goal

abbrev pub invariant-rows : goal.invariant-rows
invariant-rows g l = list_all (λ row. sorted.contains int_cmp l.ids (g.T.Restore.mailbox row)) (drop l.row-index l.rows) ≡ list_all (λ row. sorted.contains int_cmp l.ids (g.T.Restore.mailbox row)) l.rows
