use Rattle.std.proofs.Common.{◌∙◌}
use Rattle.imap_name_map.proofs.Maps.{removed_there, not_removed}
use Rattle.imap_name_map.proofs.edits.remove_entry.Goals as goal

pub returns-in-Ok-clause-items : goal.returns-in-Ok-clause-items
returns-in-Ok-clause-items g c =
    c.remove.ensures.items
    ∙ removed_there c.args.entries.now.items c.as_slice.result.now c.args.name.now c.in-Ok.place c.as_slice.ensures.value c.remove.result c.requires c.in-Ok.ensures

pub returns-in_default-clause-items : goal.returns-in_default-clause-items
returns-in_default-clause-items g c =
    not_removed c.args.entries.now.items c.as_slice.result.now c.args.name.now c.in_default.field-0 c.as_slice.ensures.value c.in_default.ensures
