use Rattle.std.proofs.Common.{length, sym, ap, ◌∙◌, arith, get_or, refl}
use Rattle.imap_session.proofs.Comparing.{gone_at, there_at}
use Rattle.imap_session.proofs.plain_notices.new_len.Goals as goal

pub loop-uid-preserved-then-not-is_next : goal.loop-uid-preserved-then-not-is_next
loop-uid-preserved-then-not-is_next c =
    let at = c.loop-uid in
    let gone = gone_at c.args.known.now at.uid-index (get_or c.args.known.now at.uid-index 0) at.left c.loop-uid-test.true refl (sym c.is_next.ensures ∙ c.if-not-is_next.true) in
    record { new = sym gone.new ∙ at.invariant.new; within = at.invariant.within }

pub loop-uid-preserved : goal.loop-uid-preserved
loop-uid-preserved c =
    let at = c.loop-uid in
    let there = there_at c.args.known.now at.uid-index (get_or c.args.known.now at.uid-index 0) at.left c.skip.new.self c.loop-uid-test.true refl (sym c.is_next.ensures ∙ c.if-not-is_next.false) c.skip.ensures in
    let len = ap length there.is in
    record { new = sym there.new ∙ at.invariant.new; within = omega (arith, len, at.invariant.within) }
