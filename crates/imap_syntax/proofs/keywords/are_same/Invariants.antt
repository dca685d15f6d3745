use Rattle.std.proofs.Common.{◌≡◌, ◌↔◌, drop}
use Rattle.imap_syntax.proofs.keywords.are_same.Given as goal

abbrev pub invariant-loop-word : goal.invariant-loop-word
invariant-loop-word l = (drop l.word-index l.words ≡ l.rest) ↔ (l.words ≡ l.others)
