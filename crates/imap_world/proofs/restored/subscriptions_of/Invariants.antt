use Rattle.std.proofs.Common.{◌≡◌, length}
use Rattle.std.specs.Vec.Iter.{into_iter_items, into_iter_len}
use Rattle.imap_world.proofs.Subscribing.{AreSoFar}
use Rattle.imap_world.proofs.restored.subscriptions_of.Given as goal

abbrev pub invariant-loop-row : goal.invariant-loop-row
invariant-loop-row l = record {
  so_far : AreSoFar l.fn.rows.items (into_iter_items l.row-iterator) l.sets;
  count : into_iter_len l.row-iterator ≡ length (into_iter_items l.row-iterator);
}
