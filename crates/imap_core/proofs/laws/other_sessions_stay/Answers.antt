use Rattle.imap_core.proofs.StepLaws.{other_users_stay, others_stay}
use Rattle.imap_core.proofs.laws.other_sessions_stay.Goals as goal

pub returns-clause-users : goal.returns-clause-users
returns-clause-users c = other_users_stay

pub returns-clause-own : goal.returns-clause-own
returns-clause-own c = others_stay
