use Rattle.std.proofs.Common.{length}
use Rattle.imap_world.proofs.world.World.+inherited_acl.Given as goal

abbrev pub decreases-inherited_acl : goal.decreases-inherited_acl
decreases-inherited_acl l = length l.name.now
