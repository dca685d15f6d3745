use Rattle.std.proofs.Common.{sym, ◌∙◌}
use Rattle.imap_records.proofs.Closing.{same_some}
use Rattle.imap_stored_values.proofs.Kept.{date_is}
use Rattle.imap_stored_values.proofs.values.read_date.Goals as goal

pub checked_date-requires : goal.checked_date-requires
checked_date-requires c other fits is = same_some other c.in-Some.date (sym (date_is c.args.text.now c.as_bytes.result.now c.read.result c.read.ensures c.as_bytes.ensures.value other fits is) ∙ c.in-Some.is)

pub returns-in-None : goal.returns-in-None
returns-in-None c other fits is = cc (sym (date_is c.args.text.now c.as_bytes.result.now c.read.result c.read.ensures c.as_bytes.ensures.value other fits is) ∙ c.in-None.is)
