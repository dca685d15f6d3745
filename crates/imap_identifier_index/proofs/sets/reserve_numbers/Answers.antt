use Rattle.std.proofs.Common.{◌≡◌, ℕ, List, Some, sym, ap, ◌∙◌}
use Rattle.std.specs.Option.{option_copied_mut}
use Rattle.std.specs.FinMap as fin
use Rattle.imap_user_map.specs.Rows.{Rows, with_value}
use Rattle.imap_identifier_index.specs.Sets.{has_number, is_in}
use Rattle.imap_identifier_index.proofs.Entered.{of_some, put_same}
use Rattle.imap_identifier_index.proofs.sets.reserve_numbers.Goals as goal

pub returns-in-Some : goal.returns-in-Some
returns-in-Some c =
    let old = c.args.sets.now in
    let text = c.args.text.now in
    let after : List ℕ = c.reserve.new.self in
    let there : fin.get old.map text ≡ Some c.in-Some.numbers.now = sym c.get_mut.ensures.value ∙ ap option_copied_mut c.in-Some.is in
    let is : c.get_mut.follows.lender after ≡ with_value old text after = of_some _ _ c.in-Some.is (c.get_mut.follows.holds after) in
    put_same old.map (c.get_mut.follows.lender after).map text after (ap (λ r. r.map) is) (Some c.in-Some.numbers.now) there (λ k. ap (has_number k) c.reserve.ensures)

pub returns-in-None : goal.returns-in-None
returns-in-None c = λ id k. ap (λ (r : Rows (List ℕ)). is_in r.map id k) c.get_mut.follows.holds-at-none
