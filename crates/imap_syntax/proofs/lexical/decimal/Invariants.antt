use Rattle.std.proofs.Common.{◌≡◌, drop}
use Rattle.imap_syntax.specs.Lexical.{decimal, decimal_from}
use Rattle.imap_syntax.proofs.lexical.decimal.Given as goal

abbrev pub invariant-loop-digit : goal.invariant-loop-digit
invariant-loop-digit l = decimal_from l.number (drop l.digit-index l.digits) ≡ decimal l.digits
