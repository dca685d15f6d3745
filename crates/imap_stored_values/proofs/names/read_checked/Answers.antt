use Rattle.std.proofs.Common.{◌∙◌, subst}
use Rattle.imap_names.specs.Answer.{AnswersIfMemory}
use Rattle.imap_names.specs.Reading.{full_name_read}
use Rattle.imap_names.specs.Valid.{IsName}
use Rattle.imap_stored_values.specs.Restored.{HasKeyOf}
use Rattle.imap_stored_values.proofs.Full.{if_read, never_fails}
use Rattle.imap_stored_values.proofs.Kept.{if_bad}
use Rattle.imap_stored_values.proofs.names.read_checked.Goals as goal

pub checked-requires : goal.checked-requires
checked-requires c other valid has =
    if_read c.as_bytes.result.now c.in-Ok.name other (subst (λ r. AnswersIfMemory r (full_name_read c.as_bytes.result.now)) c.in-Ok.is c.read_full.ensures.read) valid (c.as_bytes.ensures.value ∙ c.requires other has)

pub returns-in-Err : goal.returns-in-Err
returns-in-Err c =
    if_bad (HasKeyOf c.args.key.now) IsName c.refusal.result (λ bad other valid has.
    never_fails c.as_bytes.result.now c.in-Err.error other
    (subst (λ r. AnswersIfMemory r (full_name_read c.as_bytes.result.now)) c.in-Err.is c.read_full.ensures.read (c.refusal.ensures bad)) valid (c.as_bytes.ensures.value ∙ c.requires other has))
