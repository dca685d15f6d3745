use Rattle.std.proofs.Common.{sym, subst}
use Rattle.imap_print.specs.Lines.{IsPlain}
use Rattle.imap_tree.specs.GetAcl.{ArePlain}
use Rattle.imap_tree.proofs.Plain.{plain_identifiers}
use Rattle.imap_tree.proofs.get_acl.acl_line.Goals as goal

pub returns-clause-printable : goal.returns-clause-printable
returns-clause-printable c =
    let mailbox = subst IsPlain (sym c.in_ok-shown.ensures.octets) c.in_ok-shown.ensures.plain in
    let plain = subst ArePlain (sym c.from_vec.ensures) c.in_ok-entries.ensures.plain in
    record { plain = (mailbox, plain_identifiers c.from_vec.result plain); held = tt }
