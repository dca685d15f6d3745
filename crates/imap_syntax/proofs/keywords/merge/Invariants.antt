use Rattle.imap_syntax.proofs.KeywordUnion.{IsMerging}
use Rattle.imap_syntax.proofs.keywords.merge.Given as goal

abbrev pub invariant-loop-other : goal.invariant-loop-other
invariant-loop-other l = IsMerging l.words l.others l.all.items l.rest l.other-index
