use Rattle.std.proofs.Common.{arith}
use Rattle.std.proofs.lemmas.Grind.{common_steps}
use Rattle.imap_syntax.proofs.Numbers.{too_large}
use Rattle.imap_syntax.proofs.lexical.decimal.Goals as goal

pub returns-in_err-checked_mul : goal.returns-in_err-checked_mul
returns-in_err-checked_mul c =
    let large = too_large c.loop-digit.number c.loop-digit.digit-index c.args.digits.now c.loop-digit-test.true c.loop-digit.invariant in
    rw c.from_residual.ensures (grind (arith, common_steps, large))

pub returns-in_err-number : goal.returns-in_err-number
returns-in_err-number c =
    let large = too_large c.loop-digit.number c.loop-digit.digit-index c.args.digits.now c.loop-digit-test.true c.loop-digit.invariant in
    rw c.from_residual-in_err-number.ensures (grind (arith, common_steps, large))
