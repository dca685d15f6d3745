use Rattle.std.proofs.Common.{◌≡◌, ℕ, List, Some, None, sym, ap, subst, ◌∙◌}
use Rattle.std.specs.Prelude.{bytes_eq}
use Rattle.std.specs.Option.{option_copied_mut}
use Rattle.std.specs.FinMap as fin
use Rattle.imap_user_map.specs.Rows.{Rows, with_value}
use Rattle.imap_identifier_index.specs.Sets.{IsTaken}
use Rattle.imap_identifier_index.proofs.Entered.{none_taken, of_some, put_taken}
use Rattle.imap_identifier_index.proofs.sets.take.Goals as goal

pub returns-in-Some : goal.returns-in-Some
returns-in-Some c =
    let old = c.args.sets.now in
    let text = c.args.text.now in
    let after : List ℕ = c.remove.new.self in
    let there : fin.get old.map text ≡ Some c.in-Some.numbers.now = sym c.get_mut.ensures.value ∙ ap option_copied_mut c.in-Some.is in
    let is : c.get_mut.follows.lender after ≡ with_value old text after = of_some _ _ c.in-Some.is (c.get_mut.follows.holds after) in
    put_taken old.map (c.get_mut.follows.lender after).map text after (ap (λ r. r.map) is) c.args.number c.in-Some.numbers.now there c.remove.ensures

pub returns-in-None : goal.returns-in-None
returns-in-None c =
    let old = c.args.sets.now in
    let absent : fin.get old.map c.args.text.now ≡ None = sym c.get_mut.ensures.value ∙ ap option_copied_mut c.in-None.is in
    subst (λ (r : Rows (List ℕ)). IsTaken (λ other. bytes_eq other c.args.text.now) c.args.number old.map r.map) (sym c.get_mut.follows.holds-at-none)
    (none_taken old.map c.args.text.now c.args.number absent)
