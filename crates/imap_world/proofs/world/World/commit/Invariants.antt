use Rattle.std.proofs.Common.{◌≡◌, length}
use Rattle.imap_world.specs.Effects.{after_writes}
use Rattle.imap_world.specs.Laws.{KeepsValidities}
use Rattle.imap_world.specs.Ready.{AreReady}
use Rattle.imap_world.specs.Stored.{world_of}
use Rattle.imap_world.proofs.world.World.commit.Given as goal

abbrev pub invariant-loop-write : goal.invariant-loop-write
invariant-loop-write l = record {
  rest : after_writes l.writes.items (world_of l.self) ≡ after_writes l.fn.change (world_of l.fn.self);
  ready : AreReady l.writes.items l.self;
  kept : KeepsValidities (world_of l.fn.self) (world_of l.self);
}

abbrev pub decreases-loop-write : goal.decreases-loop-write
decreases-loop-write l = length l.writes.items
