use Rattle.std.proofs.Common.{sym, ◌∙◌}
use Rattle.imap_utf7.proofs.Shifting.{failure, is_strict, ok_not_err, reads_base64, reads_none}
use Rattle.imap_utf7.proofs.shifts.read_base64.Goals as goal

pub returns-in-Ok : goal.returns-in-Ok
returns-in-Ok c =
    reads_base64 c.args.engine.now c.args.text.now _ c.requires c.in-Ok.ensures.bytes (c.in-Ok.ensures.exact (is_strict c.args.engine.now c.requires))

pub returns-in-Err-DecodeError : goal.returns-in-Err-DecodeError
returns-in-Err-DecodeError c =
    c.new.ensures.items ∙ sym (reads_none c.args.engine.now c.args.text.now c.requires
    (λ octets bytes e. ok_not_err _ _ (sym ((c.decode.ensures.strict (is_strict c.args.engine.now c.requires) octets bytes).1 e) ∙ failure c.args.engine.now c.args.text.now _ _ c.in-Err-DecodeError.field-0-is c.in-Err-DecodeError.ensures.err)))
