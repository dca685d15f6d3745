use Rattle.imap_print.proofs.OneLine.{each_is_one_line as one_line_each, all_are_read}
use Rattle.imap_print.proofs.laws.each_is_one_line.Goals as goal

pub returns : goal.returns
returns c = record { one = one_line_each; all = all_are_read }
