use Rattle.std.proofs.Common.{◌≡◌, true, Err, sym, ap, ◌∙◌}
use Rattle.imap_rights.specs.Identifier.{identifier_read, is_identifier}
use Rattle.imap_records.proofs.Closing.{same_some}
use Rattle.imap_stored_values.proofs.Kept.{identifier_itself, if_bad}
use Rattle.imap_stored_values.proofs.rows.read_identifier.Goals as goal

pub checked-requires : goal.checked-requires
checked-requires c valid =
    same_some c.args.text.now c.in-Ok.identifier (sym (identifier_itself c.args.text.now valid) ∙ ap identifier_read (sym c.as_bytes.ensures.value) ∙ c.in-Ok.ensures.ok)

pub returns-in-Err : goal.returns-in-Err
returns-in-Err c =
    if_bad (λ identifier. identifier ≡ c.args.text.now) (λ identifier. is_identifier identifier ≡ true) c.refusal.result (λ bad other valid is.
    cc (sym (identifier_itself other valid) ∙ ap identifier_read (is ∙ sym c.as_bytes.ensures.value) ∙ c.read.ensures.invalid (c.in-Err.is ∙ ap Err (c.refusal.ensures bad))))
