use Rattle.std.proofs.Common.{rules}
use Rattle.imap_listing.proofs.matching.fn.is_matched.any.Goals as goal

pub returns : goal.returns
returns c = search rules
