use Rattle.imap_rev1.proofs.Rev1Rules.{prints_others, prints_conditions}
use Rattle.imap_rev1.proofs.laws.prints_others.Goals as goal

pub returns : goal.returns
returns c = record { others = prints_others; conditions = prints_conditions }
