use Rattle.imap_mime.proofs.Texts as texts
use Rattle.imap_mime.proofs.laws.each_is_one_line.Goals as goal

pub returns : goal.returns
returns c = texts.each_is_one_line
