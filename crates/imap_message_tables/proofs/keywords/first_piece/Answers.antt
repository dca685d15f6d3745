use Rattle.imap_message_tables.proofs.Pieces.{split_first}
use Rattle.imap_message_tables.proofs.keywords.first_piece.Goals as goal

pub returns-clause-first : goal.returns-clause-first
returns-clause-first c = split_first c.args.text.now c.split_once.result c.split_once.ensures.cases
