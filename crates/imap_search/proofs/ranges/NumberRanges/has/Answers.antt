use Rattle.std.proofs.Common.{◌≡◌, ◌∙◌, ◌+◌, ◌-◌, ◌<◌, ap, subst, ℕ, List, length, arith, slice_index_or, nat_le}
use Rattle.imap_search.specs.declared.ranges.NumberRange.{NumberRange}
use Rattle.imap_search.specs.Ranges.{AreRising, IsCount}
use Rattle.imap_search.proofs.Reaching.{found_last, found_none}
use Rattle.imap_search.proofs.ranges.NumberRanges.has.Goals as goal

pub returns-then-count-eq0 : goal.returns-then-count-eq0
returns-then-count-eq0 c =
    let n = c.args.number in
    let all = c.as_slice-ranges.ensures.value ∙ c.self.view_is in
    let point = subst (λ (rs : List NumberRange). IsCount n rs c.count_from-count.result) all c.count_from-count.ensures.point in
    found_none n c.args.self.now (subst (λ (k : ℕ). IsCount n c.args.self.now k) c.if-count-eq0.true point)

pub returns : goal.returns
returns c =
    let n = c.args.number in
    let count = c.count_from-count.result in
    let none : NumberRange = record { low = 0; high = 0 } in
    let all = c.as_slice-ranges.ensures.value ∙ c.self.view_is in
    let point = subst (λ (rs : List NumberRange). IsCount n rs count) all c.count_from-count.ensures.point in
    let last : count ≡ (count - 1) + 1 = omega (arith, c.if-count-eq0.false) in
    let within : count - 1 < length c.args.self.now = omega (arith, last, c.count_from-count.ensures.within, ap length all) in
    ap (λ (rs : List NumberRange). nat_le n (slice_index_or rs (count - 1) none).high) all
    ∙ found_last n c.args.self.now (count - 1) none (subst AreRising c.self.view_is c.self.invariant) within (subst (λ (k : ℕ). IsCount n c.args.self.now k) last point)
