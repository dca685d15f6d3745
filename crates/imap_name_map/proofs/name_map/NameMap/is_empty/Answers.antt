use Rattle.imap_name_map.proofs.Maps.{empty_decides}
use Rattle.imap_name_map.proofs.name_map.NameMap.is_empty.Goals as goal

pub returns : goal.returns
returns g c = empty_decides c.args.self.now.map c.entries.result.now c.is_empty.result c.entries.ensures c.is_empty.ensures
