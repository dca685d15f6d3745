use Rattle.std.proofs.Common.{length}
use Rattle.imap_world.proofs.world.World.+rows_for.Given as goal

abbrev pub decreases-rows_for : goal.decreases-rows_for
decreases-rows_for l = length l.name.now
