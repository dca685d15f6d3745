use Rattle.std.proofs.Common.{sym, ◌∙◌, ap, Some}
use Rattle.std.specs.Prelude.{chars}
use Rattle.imap_utf7.specs.Spelling.{encoded}
use Rattle.imap_rev1.proofs.Spelled.{spelled, no_spelling}
use Rattle.imap_rev1.proofs.shown.other_shown.Goals as goal

-- src/shown.rt:30:1
pub returns-in_ok-from_vec-in-Ok : goal.returns-in_ok-from_vec-in-Ok
returns-in_ok-from_vec-in-Ok c =
    ap Some (c.in_ok-from_vec-in-Ok.ensures ∙ ap (λ v. v.items) c.into_bytes.ensures.value ∙ c.in_ok-encode-in-Ok.ensures
    ∙ ap (λ t. encoded (chars t)) c.in-Ok.ensures.cases.0)
    ∙ sym (spelled c.args.name.now (sym c.if-are_plain.ensures) c.in-Ok.ensures.cases.1)

-- src/shown.rt:30:1
pub returns-in-Err : goal.returns-in-Err
returns-in-Err c = sym (no_spelling c.args.name.now (sym c.if-are_plain.ensures) c.in-Err.ensures.cases.0)
