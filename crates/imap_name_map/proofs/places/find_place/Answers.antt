use Rattle.imap_name_map.proofs.Maps.{missed}
use Rattle.imap_name_map.proofs.places.find_place.Goals as goal

pub returns-then-is_at : goal.returns-then-is_at
returns-then-is_at g c = (c.place_of-place.ensures.place, c.is_at.ensures.0 c.if-is_at.true)

pub returns-else-is_at : goal.returns-else-is_at
returns-else-is_at g c = (
  c.place_of-place.ensures.place,
  c.place_of-place.ensures.within,
  missed c.args.entries.now c.args.name.now c.place_of-place.result c.is_at.result c.place_of-place.ensures.place c.requires c.is_at.ensures.1 c.if-is_at.false,
)
