use Rattle.imap_rev1.proofs.Listed.{asks_messages, tells_recent}
use Rattle.imap_rev1.proofs.laws.tells_recent.Goals as goal

pub returns : goal.returns
returns c = record { asked = asks_messages; told = tells_recent }
