use Rattle.imap_structure.proofs.Texts as texts
use Rattle.imap_structure.proofs.laws.each_is_one_line.Goals as goal

pub returns : goal.returns
returns c = texts.each_is_one_line
