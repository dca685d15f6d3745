use Rattle.std.proofs.Common.{◌≡◌, [], ◌∷◌, ◌++◌, ap, sym, ◌∙◌, List, ℕ}
use Rattle.std.specs.FinMap as fin
use Rattle.std.proofs.lemmas.Result.{IfOk-weaker}
use Rattle.imap_text.specs.Places.{FieldPlaces, by_name, with_place}
use Rattle.imap_text.proofs.PlacesByName.{not_lent, pushed}
use Rattle.imap_text.proofs.field_places.FieldPlaces.add.Goals as goal

pub add_first-requires : goal.add_first-requires
add_first-requires c =
    ap (λ t. fin.get (by_name t.entries) c.args.name.items) c.get_mut.follows.holds-at-none
    ∙ ap (fin.get (by_name c.self.inside.named.entries)) (sym c.as_slice.ensures.value)
    ∙ not_lent c.self.inside.named.entries c.as_slice.result.now c.get_mut.result c.in-None.is c.get_mut.ensures.value

pub returns-in-Some : goal.returns-in-Some
returns-in-Some c =
    let new = c.get_mut.follows.lender c.push_place.new.places in
    IfOk-weaker c.push_place.result (λ _. c.push_place.new.places.items ≡ c.in-Some.places.now.items ++ c.args.place ∷ []) (λ _. by_name new.entries ≡ with_place c.args.self.now c.args.name.items c.args.place)
    (λ _ more. pushed c.self.inside.named.entries new.entries c.as_slice.result.now c.push_place.new.places c.get_mut.result c.in-Some.places c.args.place
    c.in-Some.is c.get_mut.ensures.value (c.get_mut.follows.holds c.push_place.new.places).0 more
    ∙ ap (λ (name : List ℕ). with_place (by_name c.self.inside.named.entries) name c.args.place) c.as_slice.ensures.value
    ∙ ap (λ (named : FieldPlaces). with_place named c.args.name.items c.args.place) c.self.view_is)
    c.push_place.ensures
