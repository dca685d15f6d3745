use Rattle.imap_commands.proofs.Framed.{each_is_told}
use Rattle.imap_grammar.proofs.laws.written_is_told.Goals as goal

pub returns : goal.returns
returns c = each_is_told
