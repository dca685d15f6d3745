use Rattle.imap_names.proofs.LetterLaws.{view_length}
use Rattle.imap_names.proofs.letters.Letters.len.Goals as goal

pub returns-clause-len : goal.returns-clause-len
returns-clause-len c = view_length c.self.inside.begin c.self.inside.end c.self.inside.octets.now c.args.self.now c.self.view_is
