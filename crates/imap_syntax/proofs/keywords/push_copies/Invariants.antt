use Rattle.std.proofs.Common.{◌≡◌, ◌++◌, take}
use Rattle.imap_syntax.proofs.keywords.push_copies.Given as goal

abbrev pub invariant-loop-word : goal.invariant-loop-word
invariant-loop-word l = l.all.items ≡ l.fn.all.items ++ take l.word-index l.words
