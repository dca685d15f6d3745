use Rattle.std.proofs.Common.{◌∙◌, subst, arith}
use Rattle.std.proofs.lemmas.List.{drop_more}
use Rattle.imap_print.specs.Lines.{IsPlain}
use Rattle.imap_print.proofs.Plain.{plain_field_name}
use Rattle.imap_print.proofs.printable.names_are_plain.Goals as goal

pub loop-name-preserved : goal.loop-name-preserved
loop-name-preserved c =
    let plain = plain_field_name c.as_slice.result.now c.as_slice.ensures.valid in
    let this = subst IsPlain (c.as_slice.ensures.octets ∙ c.name-item.is) plain in
    λ others. c.loop-name.invariant (rw (drop_more c.args.names.now c.loop-name.name-index c.name-item.result (omega arith)) (this, others))
