use Rattle.std.proofs.Common.{◌+◌, drop, sym, ap, ◌∙◌, get_or, refl}
use Rattle.imap_session.specs.Compared.{comparisons}
use Rattle.imap_session.specs.Notices.{expunged_uids}
use Rattle.imap_session.proofs.Comparing.{gone_at, there_at, one_more, same_front}
use Rattle.imap_session.proofs.plain_notices.expunged_uids.Goals as goal

pub loop-uid-preserved-then-is_next : goal.loop-uid-preserved-then-is_next
loop-uid-preserved-then-is_next c =
    let at = c.loop-uid in
    let there = there_at c.args.known.now at.uid-index (get_or c.args.known.now at.uid-index 0) at.left c.skip.new.self c.loop-uid-test.true refl (sym c.is_next.ensures ∙ c.if-is_next.true) c.skip.ensures in
    same_front at.uids.items (ap expunged_uids (sym there.fate)) ∙ at.invariant

pub loop-uid-preserved : goal.loop-uid-preserved
loop-uid-preserved c =
    let at = c.loop-uid in
    let e = get_or c.args.known.now at.uid-index 0 in
    let gone = gone_at c.args.known.now at.uid-index e at.left c.loop-uid-test.true refl (sym c.is_next.ensures ∙ c.if-is_next.false) in
    one_more at.uids.items e (expunged_uids (comparisons (drop (at.uid-index + 1) c.args.known.now) at.left)) c.in_ok-push.ensures.items
    ∙ same_front at.uids.items (ap expunged_uids (sym gone.fate)) ∙ at.invariant
