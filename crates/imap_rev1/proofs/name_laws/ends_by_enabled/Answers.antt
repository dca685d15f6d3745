use Rattle.imap_rev1.proofs.NamedReplies.{ends_by_enabled, stays_enabled, stays_until_enabled}
use Rattle.imap_rev1.proofs.name_laws.ends_by_enabled.Goals as goal

pub returns : goal.returns
returns c = record { before = stays_until_enabled; after = stays_enabled; ends = ends_by_enabled }
