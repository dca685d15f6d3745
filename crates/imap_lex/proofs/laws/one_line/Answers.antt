use Rattle.imap_lex.proofs.FirstLine.{lines_are_read, lines_are_found}
use Rattle.imap_lex.proofs.laws.one_line.Goals as goal

pub returns : goal.returns
returns c = record { read = lines_are_read; found = lines_are_found }
