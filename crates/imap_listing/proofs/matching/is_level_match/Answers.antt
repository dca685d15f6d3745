use Rattle.std.proofs.Common.{rules}
use Rattle.imap_listing.proofs.matching.is_level_match.Goals as goal

pub returns-then-ends_in_percent : goal.returns-then-ends_in_percent
returns-then-ends_in_percent c = search rules

pub returns-else-ends_in_percent : goal.returns-else-ends_in_percent
returns-else-ends_in_percent c = search rules
