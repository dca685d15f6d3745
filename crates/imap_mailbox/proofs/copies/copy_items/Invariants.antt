use Rattle.std.proofs.Common.{◌≡◌, take}
use Rattle.std.specs.Vec.{vec_capacity}
use Rattle.imap_mailbox.proofs.copies.copy_items.Given as goal

abbrev pub invariant-loop-item : goal.invariant-loop-item
invariant-loop-item g l = record {
  items : l.copy.items ≡ take l.item-index l.items.items;
  capacity : vec_capacity l.copy ≡ vec_capacity l.items;
}
