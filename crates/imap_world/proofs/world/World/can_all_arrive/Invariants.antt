use Rattle.std.proofs.Common.{◌≡◌, take, true}
use Rattle.std.specs.List.{list_all}
use Rattle.imap_names.specs.Order.{moved}
use Rattle.imap_world.specs.Moving.{can_arrive}
use Rattle.imap_world.specs.Stored.{world_of}
use Rattle.imap_world.proofs.world.World.can_all_arrive.Given as goal

abbrev pub invariant-loop-entry : goal.invariant-loop-entry
invariant-loop-entry l =
    list_all (λ e. can_arrive (world_of l.self).epochs (moved l.old l.new e.0)) (take l.entry-index l.run) ≡ true
