use Rattle.std.proofs.Common.{◌≡◌, ◌∙◌, ap, ℕ, ◌+◌, List, Bor, drop, map, false, add-one, arith}
use Rattle.std.specs.Prelude.{◌==◌}
use Rattle.std.proofs.lemmas.Bool.Decides.{nat_tests}
use Rattle.imap_structure.specs.Numbered.{nth}
use Rattle.imap_structure.proofs.Counted.{nth_later}
use Rattle.imap_structure.proofs.numbered.nth.Goals as goal

pub loop-part-preserved : goal.loop-part-preserved
loop-part-preserved c =
    let at = c.loop-part in
    let parts = c.args.parts.now in
    let now = λ (part : Bor (List ℕ)). part.now in
    let other = c.if-left-eq1.false in
    let is : (at.left == 1) ≡ false = grind (arith, nat_tests) in
    ap (λ (n : ℕ). nth (map now (drop (at.part-index + 1) parts)) n) c.saturating_sub-left.ensures
    ∙ rw add-one (nth_later now parts at.part-index at.left c.loop-part-test.true is)
    ∙ at.invariant
