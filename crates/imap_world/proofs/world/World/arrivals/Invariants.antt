use Rattle.std.proofs.Common.{◌≡◌, map as map_list, take, true}
use Rattle.std.specs.List.{list_all}
use Rattle.imap_names.specs.Order.{moved}
use Rattle.imap_world.specs.Moving.{arrivals_at, can_arrive}
use Rattle.imap_world.specs.Stored.{world_of}
use Rattle.imap_world.proofs.world.World.arrivals.Given as goal

abbrev pub invariant-loop-entry : goal.invariant-loop-entry
invariant-loop-entry l = record {
  made : l.arrivals ≡ arrivals_at (world_of l.self).epochs (map_list (λ e. moved l.old l.new e.0) (take l.entry-index l.run));
  can : list_all (λ e. can_arrive (world_of l.self).epochs (moved l.old l.new e.0)) (take l.entry-index l.run) ≡ true;
}
