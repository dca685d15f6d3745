use Rattle.std.proofs.Common.{take}
use Rattle.imap_print.specs.Words.{GoesOn}
use Rattle.imap_print.proofs.printing.words.push_words.Given as goal

abbrev pub invariant-loop-word : goal.invariant-loop-word
invariant-loop-word l = GoesOn l.initial.out.items l.initial.begun (take l.word-index l.words) l.out.items l.begun
