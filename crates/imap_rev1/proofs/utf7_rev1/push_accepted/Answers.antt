use Rattle.std.specs.Prelude.{codes}
use Rattle.imap_lex.specs.Framing.{crlf}
use Rattle.imap_print.specs.Pieces.{octets_of}
use Rattle.imap_print.specs.Words.{given}
use Rattle.imap_rev1.proofs.Appended.{words_pushed}
use Rattle.imap_rev1.proofs.utf7_rev1.push_accepted.Goals as goal

pub returns : goal.returns
returns c =
    let enabled = c.args.enabled in
    words_pushed (octets_of c.args.out.now) (codes "* ENABLED") (codes " UTF8=ACCEPT") crlf
    (given enabled.condstore (codes "CONDSTORE")) (given enabled.imap4rev2 (codes "IMAP4rev2")) (given enabled.qresync (codes "QRESYNC"))
    _ _ _ _ _ _ c.in_ok-push_octets.ensures c.in_ok-push_given.ensures c.in_ok-push_given-2.ensures c.in_ok-push_given-3.ensures c.in_ok-push_octets-2.ensures c.in_ok-push_octets-3.ensures
