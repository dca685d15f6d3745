use Rattle.std.proofs.Common.{◌≡◌, ◌∙◌, sym, subst}
use Rattle.imap_syntax.specs.Keywords.{with_words, AreKeywords}
use Rattle.imap_syntax.proofs.KeywordUnion.{keywords_all}
use Rattle.imap_syntax.proofs.keywords.Keywords.insert_all.Goals as goal

pub set-requires : goal.set-requires
set-requires c =
    let all : c.in_ok-words.words.items ≡ with_words c.args.others.now c.args.self.now = c.in_ok-words.ensures ∙ (λ i. with_words (c.as_slice-2.ensures.words i) (c.as_slice.ensures.words i)) in
    subst AreKeywords (sym all) (keywords_all c.args.others.now c.args.self.now c.as_slice-2.ensures.valid c.as_slice.ensures.valid)
