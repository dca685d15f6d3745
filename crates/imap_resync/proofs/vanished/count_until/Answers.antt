use Rattle.std.proofs.Common.{◌+◌, ◌-◌, ◌/◌, ℕ, ap, arith}
use Rattle.imap_mailbox.proofs.Since.{cut_high, cut_is, cut_low}
use Rattle.imap_resync.proofs.vanished.count_until.Goals as goal

pub loop-low-preserved-then-get-number : goal.loop-low-preserved-then-get-number
loop-low-preserved-then-get-number c =
    let test = c.loop-low-test.true in
    let middle : ℕ = c.loop-low.low + (c.loop-low.high - c.loop-low.low) / 2 in
    cut_low c.args.number c.args.gone.now c.loop-low.low c.loop-low.high middle c.len-high.ensures.order (omega arith) (omega (arith, test)) c.loop-low.invariant (c.get.result.uid, c.get.result.number)
    (let is = ap (λ (g : ℕ × ℕ). g.1) c.get.ensures in let le = c.if-get-number.true in omega (arith, is, le))

pub loop-low-preserved : goal.loop-low-preserved
loop-low-preserved c =
    let test = c.loop-low-test.true in
    let middle : ℕ = c.loop-low.low + (c.loop-low.high - c.loop-low.low) / 2 in
    cut_high c.args.number c.args.gone.now c.loop-low.low c.loop-low.high middle c.len-high.ensures.order (omega arith) (omega (arith, test)) c.loop-low.invariant (c.get.result.uid, c.get.result.number)
    (let is = ap (λ (g : ℕ × ℕ). g.1) c.get.ensures in let le = c.if-get-number.false in omega (arith, is, le))

pub returns-clause-others : goal.returns-clause-others
returns-clause-others c =
    let test = c.loop-low-test.false in
    cut_is c.args.number c.args.gone.now c.loop-low.low c.loop-low.invariant.before
    (λ k d le lt. c.loop-low.invariant.after k d (omega (arith, test, le)) lt)
