use Rattle.std.proofs.Common.{◌≡◌, length}
use Rattle.std.specs.Vec.Iter.{into_iter_items, into_iter_len}
use Rattle.imap_world.proofs.Standing.{AreMade}
use Rattle.imap_world.proofs.restored.mailboxes_of.Given as goal

abbrev pub invariant-loop-row : goal.invariant-loop-row
invariant-loop-row l = record {
  made : AreMade l.fn.rows.items (into_iter_items l.row-iterator) l.entries.items;
  count : into_iter_len l.row-iterator ≡ length (into_iter_items l.row-iterator);
}
