use Rattle.imap_rev1.proofs.Fetches.{asks_message, tells_part, tells_listed_part, asks_for_fields, tells_fields}
use Rattle.imap_rev1.proofs.laws.tells_parts.Goals as goal

pub returns : goal.returns
returns c = record { asked = asks_message; told = tells_part; listed = tells_listed_part; asks_for_fields = asks_for_fields; fields = tells_fields }
