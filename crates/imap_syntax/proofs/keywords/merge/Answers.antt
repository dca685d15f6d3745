use Rattle.std.proofs.Common.{◌≡◌, ◌∙◌, ◌++◌, ◌∷◌, [], sym, ap}
use Rattle.std.specs.BTreeSet.{insert_key}
use Rattle.imap_syntax.proofs.KeywordOrder.{cmp}
use Rattle.imap_syntax.proofs.KeywordUnion.{merging_on}
use Rattle.imap_syntax.proofs.keywords.merge.Goals as goal

pub loop-other-preserved : goal.loop-other-preserved
loop-other-preserved c =
    let other = c.other-item.result in
    let is = c.as_slice.ensures.octets in
    let around : insert_key cmp c.loop-other.rest.now other ≡ c.split_around.result.0.now ++ other ∷ c.split_around.result.1.now
    = ap (insert_key cmp c.loop-other.rest.now) (sym is) ∙ c.split_around.ensures ∙ ap (λ w. c.split_around.result.0.now ++ w ∷ c.split_around.result.1.now) is in
    merging_on c.args.words.now c.args.others.now c.loop-other.all.items c.push.new.self.items c.loop-other.rest.now c.split_around.result.0.now c.split_around.result.1.now c.loop-other.other-index other
    c.requires.others c.requires.lower c.loop-other-test.true c.other-item.is around
    (c.in_ok-push.ensures.items ∙ (λ i. c.in_ok-push_copies.ensures i ++ c.in_ok-copy.ensures.copy i ∷ [])) c.loop-other.invariant
