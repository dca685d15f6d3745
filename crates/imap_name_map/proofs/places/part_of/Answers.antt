use Rattle.imap_name_map.proofs.Maps.{part_between}
use Rattle.imap_name_map.proofs.places.part_of.Goals as goal

pub returns : goal.returns
returns g c = part_between c.args.entries.now c.args.start c.args.end c.requires.order
