use Rattle.imap_utf7.specs.Writing.{GoesOn}
use Rattle.imap_utf7.proofs.encoding.Writing.push_text.Given as goal

abbrev pub invariant-loop-char : goal.invariant-loop-char
invariant-loop-char l = GoesOn l.yielded l.fn.self l.self
