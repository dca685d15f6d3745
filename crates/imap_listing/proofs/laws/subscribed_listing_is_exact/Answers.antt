use Rattle.imap_listing.proofs.Exact.{subscribed_exact}
use Rattle.imap_listing.proofs.laws.subscribed_listing_is_exact.Goals as goal

pub returns : goal.returns
returns c = subscribed_exact (record { match = c.match_is_tested.ensures; percent = c.percent_is_tested.ensures })
