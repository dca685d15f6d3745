use Rattle.imap_names.proofs.ShownLetters.{matches_itself}
use Rattle.imap_names.proofs.laws.names_match_themselves.Goals as goal

pub returns : goal.returns
returns c = matches_itself
