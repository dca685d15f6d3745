use Rattle.std.proofs.Common.{length}
use Rattle.imap_world.proofs.world.World.+can_make.Given as goal

abbrev pub decreases-can_make : goal.decreases-can_make
decreases-can_make l = length l.name.now
