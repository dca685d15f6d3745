use Rattle.std.proofs.Common.{◌≡◌, ◌∙◌, ap, sym, List, ℕ, map, ◌++◌, ◌∷◌, []}
use Rattle.std.specs.Char.{to_ascii_lowercase}
use Rattle.std.proofs.lemmas.Result.{IfOk-weaker}
use Rattle.imap_text.specs.Fields.{is_named}
use Rattle.imap_text.specs.Places.{FieldPlaces, places_of, with_place}
use Rattle.imap_text.proofs.Cutting.{named_more, place_if}
use Rattle.imap_text.proofs.field_index.add_field.Goals as goal

pub returns-in_ok-lower_case-in-Some : goal.returns-in_ok-lower_case-in-Some
returns-in_ok-lower_case-in-Some c =
    let lower = c.in_ok-lower_case-in-Some.field-0.items in
    IfOk-weaker c.add.result (λ _. c.add.new.self ≡ with_place c.args.named.now lower c.args.place)
    (λ _. (name : List ℕ) → places_of c.add.new.self (map to_ascii_lowercase name) ≡ places_of c.args.named.now (map to_ascii_lowercase name) ++ place_if (is_named (name ∷ []) c.args.line.now) c.args.place)
    (λ _ is name. ap (λ (p : FieldPlaces). places_of p (map to_ascii_lowercase name)) is
    ∙ named_more c.args.named.now c.args.line.now lower c.in-Some.colon c.args.place (sym c.colon_of.ensures ∙ c.in-Some.is) c.in_ok-lower_case-in-Some.ensures name)
    c.add.ensures
