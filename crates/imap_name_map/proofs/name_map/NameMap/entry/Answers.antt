use Rattle.std.proofs.Common.{ap, length, arith}
use Rattle.std.specs.FinMap.{len-entries}
use Rattle.imap_name_map.proofs.name_map.NameMap.entry.Goals as goal

pub offset_bounds-entries-place : goal.offset_bounds-entries-place
offset_bounds-entries-place g c = omega (arith, ap length c.entries.ensures, len-entries c.args.self.now.map, c.requires)

pub bounds-entries-place : goal.bounds-entries-place
bounds-entries-place g c = omega (arith, ap length c.entries.ensures, len-entries c.args.self.now.map, c.requires)
