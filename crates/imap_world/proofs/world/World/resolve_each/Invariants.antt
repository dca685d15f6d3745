use Rattle.std.proofs.Common.{◌≡◌, Ok, drop}
use Rattle.imap_world.specs.Effects.{writes_of, writes_then}
use Rattle.imap_world.specs.Stored.{world_of}
use Rattle.imap_world.proofs.world.World.resolve_each.Given as goal

abbrev pub invariant-loop-effect : goal.invariant-loop-effect
invariant-loop-effect l =
    writes_then (Ok l.change) (writes_of (drop l.effect-index l.effects) (world_of l.self)) ≡ writes_of l.effects (world_of l.self)
