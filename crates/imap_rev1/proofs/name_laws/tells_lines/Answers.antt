use Rattle.imap_rev1.proofs.NamedReplies.{all_are_read, each_is_one_line}
use Rattle.imap_rev1.proofs.name_laws.tells_lines.Goals as goal

pub returns : goal.returns
returns c = record { one = each_is_one_line; all = all_are_read }
