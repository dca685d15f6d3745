use Rattle.imap_listing.proofs.Exact.{order_free}
use Rattle.imap_listing.proofs.laws.order_makes_no_difference.Goals as goal

pub returns : goal.returns
returns c = order_free
