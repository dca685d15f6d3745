use Rattle.imap_names.proofs.ShownLetters.{any_matches, in_level_matches}
use Rattle.imap_names.proofs.laws.wildcards_match.Goals as goal

pub returns-clause-any : goal.returns-clause-any
returns-clause-any c = any_matches

pub returns-clause-in_level : goal.returns-clause-in_level
returns-clause-in_level c = in_level_matches
