use Rattle.std.proofs.Common.{[], ◌∷◌, ◌++◌, ap, ◌∙◌}
use Rattle.std.specs.FinMap as fin
use Rattle.imap_text.specs.Places.{FieldPlaces}
use Rattle.imap_text.proofs.PlacesByName.{inserted, with_place-first}
use Rattle.imap_text.proofs.field_places.FieldPlaces.add_first.Goals as goal

pub returns : goal.returns
returns c =
    inserted c.self.inside.named.entries c.insert.new.self.entries c.args.name c.push.new.self c.in_ok-insert.ensures.entries
    ∙ ap (λ (named : FieldPlaces). fin.insert named c.args.name.items c.push.new.self.items) c.self.view_is
    ∙ with_place-first c.args.self.now c.args.name.items c.args.place c.push.new.self.items c.requires
    (c.in_ok-push.ensures.items ∙ ap (λ l. l ++ c.args.place ∷ []) c.new-places.ensures.items)
