use Rattle.std.proofs.Common.{length}
use Rattle.imap_targets.proofs.target.+holds_create_above.Given as goal

abbrev pub decreases-holds_create_above : goal.decreases-holds_create_above
decreases-holds_create_above l = length l.name.now
