use Rattle.std.proofs.Common.{length}
use Rattle.imap_view.proofs.view.View.+climb.Given as goal

abbrev pub decreases-climb : goal.decreases-climb
decreases-climb l = length l.name.now
