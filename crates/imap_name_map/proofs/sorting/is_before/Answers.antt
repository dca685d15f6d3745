use Rattle.std.proofs.Common.{◌∙◌, is_lt, ap, ap₂}
use Rattle.imap_names.specs.Order.{name_cmp}
use Rattle.imap_names.proofs.OrderLaws.{name_total}
use Rattle.imap_values.proofs.InOrder.{first_more}
use Rattle.imap_name_map.proofs.sorting.is_before.Goals as goal

pub returns-in-Some : goal.returns-in-Some
returns-in-Some g c =
    let item = c.in-Some.ensures.item in
    first_more name_cmp name_total c.args.entry.now c.args.later.now c.in-Some.next.now c.is_lt.result item.3.0 (item.3.1 c.in-Some.next.now)
    (c.is_lt.ensures ∙ ap is_lt (c.compare.ensures ∙ ap₂ name_cmp c.as_ref.ensures.name c.as_ref-in-Some.ensures.name))
