use Rattle.std.proofs.Common.{subst, sym, ◌∙◌}
use Rattle.std.specs.Prelude.{IsUtf8}
use Rattle.imap_names.proofs.PatternLaws.{not_read, is_read}
use Rattle.imap_names.proofs.pattern.Pattern.read.Goals as goal

pub returns-in_default : goal.returns-in_default
returns-in_default c =
    not_read c.args.reference.now c.args.pattern.now c.as_slice.result.now (c.as_slice.ensures.value ∙ c.in_ok-joined.ensures) c.in_default.ensures.cases.0

pub returns : goal.returns
returns c =
    let text = c.in-Ok.ensures.cases.0 in
    is_read c.args.reference.now c.args.pattern.now c.in-Ok.text.now c.as_bytes.result.now c.in_ok-tokens.tokens.items
    (text ∙ (c.as_slice.ensures.value ∙ c.in_ok-joined.ensures)) (subst IsUtf8 (sym text) c.in-Ok.ensures.cases.1)
    (c.as_bytes.ensures.value ∙ c.in_ok-composed.ensures) c.in_ok-tokens.ensures
