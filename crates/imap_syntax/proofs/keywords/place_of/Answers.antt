use Rattle.std.proofs.Common.{rules}
use Rattle.std.specs.Cmp.Lexicographic.{slice_cmp}
use Rattle.std.specs.Ordering.{nat_cmp}
use Rattle.std.proofs.lemmas.Fn.{always_returns_same}
use Rattle.imap_syntax.proofs.KeywordOrder.{place_searched}
use Rattle.imap_syntax.proofs.keywords.place_of.Goals as goal

pub returns-clause-place : goal.returns-clause-place
returns-clause-place c =
    place_searched c.args.word.now c.args.words.now c.binary_search_by.result c.requires c.binary_search_by.ensures.bound
    (c.binary_search_by.ensures.position (λ y. slice_cmp nat_cmp y c.args.word.now) (always_returns_same _ _ _ (λ a r f' k. search rules)))
