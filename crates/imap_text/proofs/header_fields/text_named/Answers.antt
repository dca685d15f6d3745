use Rattle.std.proofs.Common.{sym, refl}
use Rattle.imap_text.proofs.Names.{text_is_named}
use Rattle.imap_text.proofs.header_fields.text_named.Goals as goal

pub returns-then-eq_ignore_ascii_case : goal.returns-then-eq_ignore_ascii_case
returns-then-eq_ignore_ascii_case c =
    text_is_named c.args.name.now c.args.field.line.now c.args.field.octets.now c.in_ok-colon.colon (sym c.in_ok-colon.ensures) (c.if-eq_ignore_ascii_case.ensures.test.0 refl)
