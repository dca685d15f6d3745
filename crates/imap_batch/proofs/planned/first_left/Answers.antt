use Rattle.std.proofs.Common.{◌<◌, length, sym, ◌∙◌, arith}
use Rattle.imap_batch.proofs.Walking.{passed, starts_here}
use Rattle.imap_batch.proofs.planned.first_left.Goals as goal

pub returns-then-not-is_expunged-clause-starts : goal.returns-then-not-is_expunged-clause-starts
returns-then-not-is_expunged-clause-starts c =
    let lt : c.loop-at.at < length c.args.rows.now = omega (arith, c.loop-at-test.true, c.len-at-end.ensures) in
    starts_here c.args.expunged.now c.args.rows.now c.loop-at.at c.uid-uid.result lt c.uid-uid.ensures (sym c.is_expunged.ensures ∙ c.if-not-is_expunged.true)

pub loop-at-preserved : goal.loop-at-preserved
loop-at-preserved c =
    let lt : c.loop-at.at < length c.args.rows.now = omega (arith, c.loop-at-test.true, c.len-at-end.ensures) in
    record {
      rows = passed c.args.expunged.now c.args.rows.now c.loop-at.at c.uid-uid.result c.loop-at.later c.marks_after-later.result lt c.uid-uid.ensures c.marks_after-later.ensures.rows
          (sym c.is_expunged.ensures ∙ c.if-not-is_expunged.false) ∙ c.loop-at.invariant.rows;
      marks = c.marks_after-later.ensures.marks;
    }
