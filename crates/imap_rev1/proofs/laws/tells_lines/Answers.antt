use Rattle.imap_rev1.proofs.Lines.{each_is_one_line, all_are_read}
use Rattle.imap_rev1.proofs.laws.tells_lines.Goals as goal

pub returns : goal.returns
returns c = record { one = each_is_one_line; all = all_are_read }
