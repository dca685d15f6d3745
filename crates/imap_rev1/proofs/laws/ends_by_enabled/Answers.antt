use Rattle.imap_rev1.proofs.Rev1Rules.{ends_by_rev2, stays_until_enabled, stays_enabled}
use Rattle.imap_rev1.proofs.laws.ends_by_enabled.Goals as goal

pub returns : goal.returns
returns c = record { ends = ends_by_rev2; before = stays_until_enabled; after = stays_enabled }
