use Rattle.std.proofs.Common.{sym, arith}
use Rattle.imap_session.proofs.Finding.{place_at}
use Rattle.imap_session.proofs.uids.find_uid.Goals.{else-place-uids-via-then-place-uids+else-uids-place, else-place-uids-via-else-place-uids}
use Rattle.imap_session.proofs.uids.find_uid.Goals as goal

pub returns-then-uids-place : goal.returns-then-uids-place
returns-then-uids-place c =
    let at = place_at c.args.uid c.args.uids.now c.count_lower-place.result c.requires c.count_lower-place.ensures.count in
    sym (at.found 0 c.if-place-uids.true c.if-uids-place.true)

pub returns-else-place-uids : goal.returns-else-place-uids
returns-else-place-uids c =
    let at = place_at c.args.uid c.args.uids.now c.count_lower-place.result c.requires c.count_lower-place.ensures.count in
    elim c.else-place-uids.branch [
      | else-place-uids-via-then-place-uids+else-uids-place w ↦ sym (at.other 0 w.if-place-uids.true w.if-uids-place.false)
      | else-place-uids-via-else-place-uids w ↦ sym (at.past (omega (arith, w.if-place-uids.false)))
    ]
