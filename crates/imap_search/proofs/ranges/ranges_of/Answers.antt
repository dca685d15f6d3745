use Rattle.std.proofs.Common.{◌++◌, ◌∷◌, [], ◌∙◌, ap, sym}
use Rattle.std.proofs.lemmas.List.{map_more}
use Rattle.imap_search.specs.Ranges.{range_of}
use Rattle.imap_search.proofs.ranges.ranges_of.Goals as goal

pub loop-range-preserved : goal.loop-range-preserved
loop-range-preserved c =
    c.in_ok-push.ensures.items ∙ (λ i. c.loop-range.invariant i ++ (c.range_of.ensures ∙ ap (range_of c.args.last) c.range-item.is) i ∷ [])
    ∙ sym (map_more (range_of c.args.last) c.args.ranges.now c.loop-range.range-index _ c.loop-range-test.true)
