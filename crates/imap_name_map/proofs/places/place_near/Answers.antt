use Rattle.imap_name_map.proofs.Maps.{placed}
use Rattle.imap_name_map.proofs.places.place_near.Goals as goal

pub returns-then-is_at-clause-there : goal.returns-then-is_at-clause-there
returns-then-is_at-clause-there g c = λ within. placed c.args.entries.now c.args.name.now c.args.place c.requires (c.is_at.ensures.0 c.if-is_at.true)
