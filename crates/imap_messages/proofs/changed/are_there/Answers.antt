use Rattle.std.proofs.Common.{◌<◌, length, ◌∙◌, arith}
use Rattle.imap_messages.proofs.Skipping.{there_more, uid_is}
use Rattle.imap_messages.proofs.changed.are_there.Goals as goal

pub loop-index-preserved : goal.loop-index-preserved
loop-index-preserved c =
    let within : c.loop-index.index < length c.args.known.now.list = omega (arith, c.loop-index-test.true, c.requires.within) in
    let row : c.saturating_add-place.result < length c.args.rows.now = omega (arith, c.if-place-len.false, c.len.ensures) in
    let same = uid_is c.args.known.now.list c.loop-index.index c.uid-else-place-len-2.result within c.uid-else-place-len-2.ensures in
    there_more c.args.rows.now c.args.known.now.list c.args.start c.loop-index.index c.saturating_add-place.result c.uid-else-place-len.result row c.uid-else-place-len.ensures
    (λ d. c.if-uid.false ∙ same d) c.loop-index.invariant
