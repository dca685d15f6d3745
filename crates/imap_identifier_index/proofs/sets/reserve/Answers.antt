use Rattle.std.proofs.Common.{◌∙◌}
use Rattle.imap_identifier_index.proofs.sets.reserve.Goals as goal

pub returns : goal.returns
returns c = λ id k. c.reserve_numbers-2.ensures id k ∙ c.add_text.ensures id k
