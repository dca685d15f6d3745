use Rattle.std.proofs.Common.{refl, ◌∙◌}
use Rattle.imap_identifier_index.proofs.sets.reserve_all.Goals as goal

pub loop-entry-init : goal.loop-entry-init
loop-entry-init c = λ id k. refl

pub loop-entry-preserved : goal.loop-entry-preserved
loop-entry-preserved c = λ id k. c.reserve.ensures id k ∙ c.loop-entry.invariant id k

pub returns-in_err-reserve : goal.returns-in_err-reserve
returns-in_err-reserve c = λ id k. c.reserve.ensures id k ∙ c.loop-entry.invariant id k
