use Rattle.imap_utf7.proofs.Printable.{printable, stays}
use Rattle.imap_utf7.proofs.laws.is_ascii.Goals as goal

pub returns-clause-printable : goal.returns-clause-printable
returns-clause-printable c = printable

pub returns-clause-stays : goal.returns-clause-stays
returns-clause-stays c = stays
