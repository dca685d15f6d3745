use Rattle.imap_lex.proofs.Marks.{marks_are_read, marks_are_found}
use Rattle.imap_lex.proofs.laws.one_mark.Goals as goal

pub returns : goal.returns
returns c = record { read = marks_are_read; found = marks_are_found }
