use Rattle.std.proofs.Common.{◌∙◌, sym}
use Rattle.imap_text.proofs.FieldsFound.{IsPassed-more}
use Rattle.imap_text.proofs.field.after_continuations.Goals as goal

pub loop-line-preserved : goal.loop-line-preserved
loop-line-preserved c = IsPassed-more c.args.octets.now c.loop-line.rest.now c.in-Some.line.now c.in-Some.later.now c.in-Some.ensures (sym c.is_continuation.ensures ∙ c.if-not-is_continuation.false) c.loop-line.invariant
