use Rattle.std.proofs.Common.{◌≡◌, take}
use Rattle.std.specs.Vec.{vec_capacity}
use Rattle.imap_name_map.proofs.copies.copy_entries.Given as goal

abbrev pub invariant-loop-name : goal.invariant-loop-name
invariant-loop-name g l = record {
  items : l.copy.items ≡ take l.name-index l.entries.items;
  capacity : vec_capacity l.copy ≡ vec_capacity l.entries;
}
