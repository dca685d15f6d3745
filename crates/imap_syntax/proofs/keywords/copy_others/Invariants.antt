use Rattle.std.proofs.Common.{◌≡◌, ◌++◌, drop}
use Rattle.imap_syntax.specs.Keywords.{without_word}
use Rattle.imap_syntax.proofs.keywords.copy_others.Given as goal

abbrev pub invariant-loop-kept : goal.invariant-loop-kept
invariant-loop-kept l = l.copies.items ++ without_word l.word (drop l.kept-index l.words) ≡ without_word l.word l.words
