use Rattle.imap_print.proofs.Plain.{plain_keywords}
use Rattle.imap_print.proofs.printable.keywords_are_plain.Goals as goal

pub returns : goal.returns
returns c = plain_keywords c.args.keywords.now c.as_slice.ensures.valid.atoms
