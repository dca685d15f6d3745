use Rattle.std.proofs.Common.{length}
use Rattle.imap_view.proofs.view.View.+may_create.Given as goal

abbrev pub decreases-may_create : goal.decreases-may_create
decreases-may_create l = length l.name.now
