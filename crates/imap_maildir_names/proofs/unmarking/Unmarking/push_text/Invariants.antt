use Rattle.imap_maildir_names.specs.Unmarking.{GoesOn}
use Rattle.imap_maildir_names.proofs.unmarking.Unmarking.push_text.Given as goal

abbrev pub invariant-loop-char : goal.invariant-loop-char
invariant-loop-char l = GoesOn l.yielded l.fn.self l.self
