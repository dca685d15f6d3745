use Rattle.imap_names.proofs.ShownLetters.{prefix_shared, prefix_personal, prefix_other}
use Rattle.imap_names.proofs.laws.prefixes_are_shown.Goals as goal

pub returns-clause-shared : goal.returns-clause-shared
returns-clause-shared c = prefix_shared

pub returns-clause-personal : goal.returns-clause-personal
returns-clause-personal c = prefix_personal

pub returns-clause-other_users : goal.returns-clause-other_users
returns-clause-other_users c = prefix_other
