use Rattle.imap_listing.proofs.Exact.{exact}
use Rattle.imap_listing.proofs.laws.listing_is_exact.Goals as goal

pub returns : goal.returns
returns c = exact (record { match = c.match_is_tested.ensures; percent = c.percent_is_tested.ensures })
