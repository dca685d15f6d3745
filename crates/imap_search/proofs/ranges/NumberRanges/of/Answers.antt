use Rattle.std.proofs.Common.{◌∙◌, ap, sym, subst, List}
use Rattle.imap_search.specs.declared.ranges.NumberRange.{NumberRange}
use Rattle.imap_search.specs.Ranges.{AreRising, in_ranges, reaching}
use Rattle.imap_search.proofs.Reaching.{in_sorted, reaching-rises}
use Rattle.imap_search.proofs.ranges.NumberRanges.of.Goals as goal

pub invariant_of-result : goal.invariant_of-result
invariant_of-result c =
    let made = c.in_ok-reaching.ensures ∙ ap (reaching 0) c.as_slice.ensures.value in
    subst AreRising (sym made) (reaching-rises c.sort_by_low.new.ranges.items c.sort_by_low.ensures.sorted)

pub returns : goal.returns
returns c =
    let made = c.in_ok-reaching.ensures ∙ ap (reaching 0) c.as_slice.ensures.value in
    λ n. ap (λ (rs : List NumberRange). in_ranges rs n) made
    ∙ in_sorted c.args.last n c.args.ranges.now c.in_ok-sorted.sorted.items c.sort_by_low.new.ranges.items c.in_ok-sorted.ensures c.sort_by_low.ensures.same c.sort_by_low.ensures.sorted
