use Rattle.std.proofs.Common.{◌∙◌}
use Rattle.imap_names.proofs.PathOrder.{text_goes_on}
use Rattle.imap_names.proofs.name_ref.compare_texts.Goals as goal

pub returns-in-empty : goal.returns-in-empty
returns-in-empty c =
    text_goes_on c.args.a.now c.loop-octet.rest.now c.loop-octet.octet-index c.loop-octet-test.true c.in-empty.len_below ∙ c.loop-octet.invariant
