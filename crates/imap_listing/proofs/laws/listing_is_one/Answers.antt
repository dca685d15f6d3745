use Rattle.imap_listing.proofs.Determined.{one_listing}
use Rattle.imap_listing.proofs.laws.listing_is_one.Goals as goal

pub returns : goal.returns
returns c = one_listing
