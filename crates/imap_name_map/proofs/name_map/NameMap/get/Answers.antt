use Rattle.std.proofs.Common.{◌∙◌, ap, sym}
use Rattle.std.specs.FinMap.{get-entries}
use Rattle.std.specs.FinMap.Entries.{find}
use Rattle.imap_names.specs.Order.{name_cmp}
use Rattle.imap_name_map.proofs.Maps.{sorted_entries}
use Rattle.imap_name_map.proofs.name_map.NameMap.get.Goals as goal

pub find_in-requires : goal.find_in-requires
find_in-requires g c = sorted_entries c.args.self.now.map c.entries.result.now c.entries.ensures

pub returns : goal.returns
returns g c = c.find_in.ensures ∙ ap (find name_cmp c.args.name.now) c.entries.ensures ∙ sym (get-entries c.args.self.now.map c.args.name.now)
