use Rattle.std.proofs.Common.{length}
use Rattle.imap_view.proofs.view.View.+may_know_name.Given as goal

abbrev pub decreases-may_know_name : goal.decreases-may_know_name
decreases-may_know_name l = length l.name.now
