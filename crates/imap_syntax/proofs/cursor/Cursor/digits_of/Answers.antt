use Rattle.std.proofs.Common.{arith}
use Rattle.imap_syntax.proofs.Numbers.{few_read}
use Rattle.imap_syntax.proofs.cursor.Cursor.digits_of.Goals as goal

pub returns-in-None : goal.returns-in-None
returns-in-None c =
    let few = few_read c.args.self.now c.in_ok-digits.digits.now c.digits.new.self c.in_ok-digits.ensures (omega arith) in
    absurd (omega (arith, few, c.in-None.ensures))
