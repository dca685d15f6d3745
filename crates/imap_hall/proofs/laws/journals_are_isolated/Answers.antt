use Rattle.imap_hall.proofs.Journals.{journals_isolated}
use Rattle.imap_hall.proofs.laws.journals_are_isolated.Goals as goal

pub returns : goal.returns
returns c = journals_isolated c.isolation_of_replies.ensures
