use Rattle.imap_text.proofs.Chosen.{each_line_once}
use Rattle.imap_text.proofs.laws.each_line_once.Goals as goal

pub returns : goal.returns
returns c = each_line_once
