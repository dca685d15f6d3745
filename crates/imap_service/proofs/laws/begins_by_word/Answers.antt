use Rattle.imap_service.proofs.Openings.{begins_by_word}
use Rattle.imap_service.proofs.laws.begins_by_word.Goals as goal

pub returns : goal.returns
returns c = begins_by_word
