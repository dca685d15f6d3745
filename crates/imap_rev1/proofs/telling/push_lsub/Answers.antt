use Rattle.std.specs.Prelude.{codes}
use Rattle.imap_print.specs.Pieces.{octets_of}
use Rattle.imap_print.specs.Strings.{name_text}
use Rattle.imap_rev1.proofs.Appended.{three_appended}
use Rattle.imap_rev1.proofs.telling.push_lsub.Goals as goal

pub returns : goal.returns
returns c =
    three_appended (octets_of c.args.out.now) (codes "* LSUB () \"/\" ") (name_text c.args.mailbox.now) (codes "\r\n") _ _ _
    c.in_ok-push_octets.ensures c.in_ok-push_name.ensures c.in_ok-push_octets-2.ensures
