use Rattle.std.proofs.Common.{◌≡◌, ℕ, List, Some, sym, ap, ◌∙◌}
use Rattle.std.specs.Option.{option_copied_mut}
use Rattle.std.specs.FinMap as fin
use Rattle.imap_user_map.specs.Rows.{with_value}
use Rattle.imap_identifier_index.proofs.Entered.{of_some, put_added}
use Rattle.imap_identifier_index.proofs.sets.add.Goals as goal

pub returns-in-Some : goal.returns-in-Some
returns-in-Some c = λ done.
    let old = c.args.sets.now in
    let text = c.args.text.now in
    let after : List ℕ = c.push.new.self in
    let there : fin.get old.map text ≡ Some c.in-Some.numbers.now = sym c.get_mut.ensures.value ∙ ap option_copied_mut c.in-Some.is in
    let is : c.get_mut.follows.lender after ≡ with_value old text after = of_some _ _ c.in-Some.is (c.get_mut.follows.holds after) in
    put_added old.map (c.get_mut.follows.lender after).map text after (ap (λ r. r.map) is) c.args.number c.in-Some.numbers.now there (c.push.ensures done)

pub returns-in-None : goal.returns-in-None
returns-in-None c = λ done. absurd (cc done)
