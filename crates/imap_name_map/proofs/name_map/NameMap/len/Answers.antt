use Rattle.std.proofs.Common.{◌∙◌, ap, sym, length}
use Rattle.std.specs.FinMap.{len-entries}
use Rattle.imap_name_map.proofs.name_map.NameMap.len.Goals as goal

pub returns : goal.returns
returns g c = ap length c.entries.ensures ∙ sym (len-entries c.args.self.now.map)
