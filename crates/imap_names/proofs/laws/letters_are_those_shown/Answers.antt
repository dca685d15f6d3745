use Rattle.imap_names.proofs.ShownLetters.{octets_of_letters, shown_path}
use Rattle.imap_names.proofs.laws.letters_are_those_shown.Goals as goal

pub returns-clause-octets : goal.returns-clause-octets
returns-clause-octets c = octets_of_letters

pub returns-clause-path : goal.returns-clause-path
returns-clause-path c = shown_path
