use Rattle.std.proofs.Common.{◌∙◌, ap}
use Rattle.imap_name_map.proofs.Maps.{map_of, map_of-nil}
use Rattle.imap_name_map.proofs.name_map.NameMap.new.Goals as goal

pub returns : goal.returns
returns g c = ap map_of c.new.ensures.items ∙ map_of-nil
