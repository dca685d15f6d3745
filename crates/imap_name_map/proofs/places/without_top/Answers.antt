use Rattle.std.proofs.Common.{cond, ap, sym, ◌∙◌}
use Rattle.imap_name_map.proofs.Runs.{without_split}
use Rattle.imap_name_map.proofs.places.without_top.Goals as goal

pub returns-then-is_same : goal.returns-then-is_same
returns-then-is_same g c =
    sym (without_split c.args.top.now c.args.entries.now c.in-Some.first.now c.in-Some.others.now c.as_ref.result c.is_same.result c.in-Some.ensures.cases.0 c.as_ref.ensures.name c.requires.sorted c.requires.run c.is_same.ensures
    ∙ ap (λ b. cond b c.in-Some.others.now c.args.entries.now) c.if-is_same.true)

pub returns-else-is_same : goal.returns-else-is_same
returns-else-is_same g c =
    sym (without_split c.args.top.now c.args.entries.now c.in-Some.first.now c.in-Some.others.now c.as_ref.result c.is_same.result c.in-Some.ensures.cases.0 c.as_ref.ensures.name c.requires.sorted c.requires.run c.is_same.ensures
    ∙ ap (λ b. cond b c.in-Some.others.now c.args.entries.now) c.if-is_same.false)
