use Rattle.std.proofs.Common.{sym, subst, ◌∙◌}
use Rattle.imap_print.specs.Lines.{IsPlain}
use Rattle.imap_tree.proofs.Plain.{identifier_plain}
use Rattle.imap_tree.proofs.list_rights.list_rights_line.Goals as goal

pub returns-clause-printable : goal.returns-clause-printable
returns-clause-printable c =
    let mailbox = subst IsPlain (sym c.in_ok-shown.ensures.octets) c.in_ok-shown.ensures.plain in
    let identifier = subst IsPlain (sym (c.in_ok-from_slice.ensures ∙ c.as_bytes.ensures.octets)) (identifier_plain c.args.identifier.now c.as_bytes.ensures.valid) in
    record { plain = (mailbox, (identifier, tt)); held = tt }
