use Rattle.std.proofs.Common.{◌∙◌, ◌++◌, ◌∷◌, [], ap}
use Rattle.imap_syntax.specs.Keywords.{without_word}
use Rattle.imap_syntax.proofs.KeywordOrder.{other_passed, other_copied, tested}
use Rattle.imap_syntax.proofs.keywords.copy_others.Goals as goal

pub loop-kept-preserved-then-eq_ignore_ascii_case : goal.loop-kept-preserved-then-eq_ignore_ascii_case
loop-kept-preserved-then-eq_ignore_ascii_case c =
    other_passed c.args.word.now c.args.words.now c.loop-kept.copies.items (without_word c.args.word.now c.args.words.now) c.loop-kept.kept-index c.kept-item.result c.loop-kept-test.true c.kept-item.is
    (tested c.eq_ignore_ascii_case.result c.as_slice.result.now c.kept-item.result c.args.word.now c.eq_ignore_ascii_case.ensures.test c.as_slice.ensures.octets ∙ c.if-eq_ignore_ascii_case.true)
    c.loop-kept.invariant

pub loop-kept-preserved : goal.loop-kept-preserved
loop-kept-preserved c =
    other_copied c.args.word.now c.args.words.now c.loop-kept.copies.items c.push.new.self.items (without_word c.args.word.now c.args.words.now) c.loop-kept.kept-index c.kept-item.result c.loop-kept-test.true c.kept-item.is
    (tested c.eq_ignore_ascii_case.result c.as_slice.result.now c.kept-item.result c.args.word.now c.eq_ignore_ascii_case.ensures.test c.as_slice.ensures.octets ∙ c.if-eq_ignore_ascii_case.false)
    (c.in_ok-push.ensures.items ∙ ap (λ w. c.loop-kept.copies.items ++ w ∷ []) c.in_ok-copy.ensures.copy) c.loop-kept.invariant
