use Rattle.std.proofs.Common.{ap, is_lt, ◌∙◌}
use Rattle.imap_names.specs.Order.{name_cmp}
use Rattle.imap_name_map.proofs.RunInserts.{last_decides}
use Rattle.imap_name_map.proofs.places.end_before.Goals as goal

pub returns-in-Some : goal.returns-in-Some
returns-in-Some g c =
    last_decides c.args.name.now c.args.entries.now c.in-Some.entry.now c.is_lt.result c.requires c.in-Some.ensures.item.3.0 c.in-Some.ensures.item.1
    (c.is_lt.ensures ∙ ap is_lt c.compare.ensures ∙ ap (λ n. is_lt (name_cmp n c.args.name.now)) c.as_ref.ensures.name)
