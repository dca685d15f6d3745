use Rattle.imap_text.proofs.AtPlaces.{bound_within}
use Rattle.imap_text.proofs.placed.unplaced_parts.Goals as goal

pub push_part-requires-clause-within : goal.push_part-requires-clause-within
push_part-requires-clause-within c = bound_within c.args.message.now c.args.bounds.now c.loop-place.start c.loop-place.place-index c.args.places.now c.loop-place-test.true c.loop-place.invariant.later
