use Rattle.std.proofs.Common.{◌≡◌, take}
use Rattle.std.specs.List.{AllByRecursion}
use Rattle.imap_world.specs.Ready.{HasNameRoom}
use Rattle.imap_world.specs.Stored.{filled_sets}
use Rattle.imap_world.proofs.subscriptions.make_room_for.Given as goal

abbrev pub invariant-loop-write : goal.invariant-loop-write
invariant-loop-write l = record {
  sets : filled_sets l.subscriptions ≡ filled_sets l.fn.subscriptions;
  each : AllByRecursion (HasNameRoom l.subscriptions l.more) (take l.write-index l.writes);
}
