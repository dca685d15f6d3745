use Rattle.imap_message_tables.proofs.Shown.{split_shows}
use Rattle.imap_message_tables.proofs.laws.split_shows.Goals as goal

pub returns : goal.returns
returns c = split_shows
