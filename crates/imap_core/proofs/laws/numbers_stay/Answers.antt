use Rattle.imap_core.proofs.NumbersStay.{numbers_stay}
use Rattle.imap_core.proofs.laws.numbers_stay.Goals as goal

pub returns : goal.returns
returns c = numbers_stay
