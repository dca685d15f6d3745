use Rattle.std.proofs.Common.{ℕ, ◌+◌, ◌-◌, ◌++◌, length, ap, ◌∙◌}
use Rattle.std.specs.Prelude.{slice_range}
use Rattle.std.specs.List.{concat}
use Rattle.imap_text.proofs.Chosen.{IsGathered-chosen, IsGathered-passed, IsGathered-end}
use Rattle.imap_text.proofs.Names.{passed_over, chosen_so}
use Rattle.imap_text.proofs.header_fields.fields.Goals as goal

pub loop-field-preserved-then-is_named-not : goal.loop-field-preserved-then-is_named-not
loop-field-preserved-then-is_named-not c =
    let field = c.in-Some.field in
    IsGathered-passed c.args.names.now c.args.not c.args.message.now c.loop-field.parts.items c.push_part.new.parts.items c.loop-field.start _ c.loop-field.rest.now field.line.now field.octets.now field.later.now
    c.in-Some.ensures (passed_over c.args.names.now c.args.not c.is_named.result field.line.now c.is_named.ensures c.if-is_named-not.true) c.in_ok-push_part.ensures c.loop-field.invariant

pub loop-field-preserved : goal.loop-field-preserved
loop-field-preserved c =
    let field = c.in-Some.field in
    IsGathered-chosen c.args.names.now c.args.not c.args.message.now c.loop-field.parts.items c.loop-field.start _ c.loop-field.rest.now field.line.now field.octets.now field.later.now
    c.in-Some.ensures (chosen_so c.args.names.now c.args.not c.is_named.result field.line.now c.is_named.ensures c.if-is_named-not.false) c.loop-field.invariant

pub returns : goal.returns
returns c =
    let at = length c.as_slice-len.result.now - length c.loop-field.rest.now in
    let end = ap (λ (n : ℕ). concat c.loop-field.parts.items ++ slice_range c.args.message.now c.loop-field.start (at + n)) c.header_length.ensures.length in
    ap concat c.from_vec.ensures
    ∙ IsGathered-end c.args.names.now c.args.not c.args.message.now c.loop-field.parts.items c.push_part-2.new.parts.items c.loop-field.start _ c.loop-field.rest.now c.in_default.ensures (c.in_ok-push_part-2.ensures ∙ end) c.loop-field.invariant
