use Rattle.std.proofs.Common.{◌+◌, drop, get_or}
use Rattle.std.proofs.lemmas.List.{drop_more}
use Rattle.imap_text.proofs.AtPlaces.{end_within, IsJoined-next, IsJoined-apart}
use Rattle.imap_text.proofs.placed.placed_parts.Goals as goal
use Rattle.imap_text.proofs.placed.placed_parts.Goals.{then-next-end, else-next-end+in_ok-push_part}

pub push_part-requires-clause-within : goal.push_part-requires-clause-within
push_part-requires-clause-within c = end_within c.args.message.now c.args.bounds.now c.loop-place.end c.loop-place.place-index c.args.places.now c.loop-place-test.true c.loop-place.invariant.later

pub loop-place-preserved : goal.loop-place-preserved
loop-place-preserved c =
    let message = c.args.message.now in
    let bounds = c.args.bounds.now in
    let places = c.args.places.now in
    let i = c.loop-place.place-index in
    let place = get_or places i 0 in
    let left = drop i places in
    let later = drop (i + 1) places in
    let next = drop_more places i 0 c.loop-place-test.true in
    elim c.if-next-end.branch [
      | then-next-end w ↦
          rw (w.parts-is, w.start-is, w.end-is)
          (IsJoined-next message bounds c.loop-place.parts.items c.loop-place.start c.loop-place.end place left later places next w.if-next-end.true c.loop-place.invariant)
      | else-next-end+in_ok-push_part w ↦
          rw (w.parts-is, w.start-is, w.end-is)
          (IsJoined-apart message bounds c.loop-place.parts.items w.push_part.new.parts.items c.loop-place.start c.loop-place.end place left later places next w.in_ok-push_part.ensures c.loop-place.invariant)
    ]
