use Rattle.std.proofs.Common.{◌∙◌, sym, refl}
use Rattle.imap_text.proofs.FieldsFound.{IsFirstField-lines}
use Rattle.imap_text.proofs.field.split_field.Goals as goal

pub returns : goal.returns
returns c = IsFirstField-lines c.args.octets.now c.in_ok-line.line.now c.in_ok-line.below.now _ c.after_continuations-later.result.now c.in_ok-line.ensures (sym c.is_empty_line.ensures ∙ c.if-is_empty_line.false) c.after_continuations-later.ensures refl
