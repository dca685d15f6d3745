use Rattle.imap_text.proofs.AtPlaces.{next_at}
use Rattle.imap_text.proofs.placed.placed_texts.Goals as goal

pub octets_between-field-requires-clause-within : goal.octets_between-field-requires-clause-within
octets_between-field-requires-clause-within c =
    let next = next_at c.args.message.now c.args.bounds.now c.loop-place.invariant.start c.loop-place.place-index c.args.places.now c.loop-place-test.true c.loop-place.invariant.later in next.within
