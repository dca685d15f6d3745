use Rattle.std.proofs.Common.{◌<◌, length, arith}
use Rattle.imap_messages.proofs.Skipping.{left_to_end, left_to_next, uid_is}
use Rattle.imap_messages.proofs.changed.next_changed.Goals as goal

pub returns-then-place-len : goal.returns-then-place-len
returns-then-place-len c =
    let known = c.args.known.now.list in
    let first = uid_is known c.args.index c.uid.result c.requires.known c.uid.ensures in
    left_to_end c.args.since c.uid.result c.place_from-start.result c.skip_unchanged-place.result c.args.rows.now c.requires.rows c.place_from-start.ensures.place c.skip_unchanged-place.ensures.low
    known c.args.index c.len-count.ensures.valid first c.len-count.result (omega (arith, c.if-place-len.true, c.len-2.ensures))

pub returns : goal.returns
returns c =
    let known = c.args.known.now.list in
    let first = uid_is known c.args.index c.uid.result c.requires.known c.uid.ensures in
    let within : c.skip_unchanged-place.result < length c.args.rows.now = omega (arith, c.if-place-len.false, c.len-2.ensures, c.len.ensures, c.skip_unchanged-place.ensures.within) in
    left_to_next c.args.since c.uid.result c.place_from-start.result c.skip_unchanged-place.result c.args.rows.now c.requires.rows c.place_from-start.ensures.place c.skip_unchanged-place.ensures.low
    known c.args.index c.len-count.ensures.valid first c.place_from.result c.uid-2.result within c.uid-2.ensures c.place_from.ensures.place
