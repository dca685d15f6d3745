use Rattle.std.proofs.Common.{ap, ◌∙◌}
use Rattle.imap_text.specs.Places.{FieldPlaces, places_of}
use Rattle.imap_text.proofs.PlacesByName.{places_some, places_none}
use Rattle.imap_text.proofs.field_places.FieldPlaces.of.Goals as goal

pub returns-in-Some : goal.returns-in-Some
returns-in-Some c =
    c.as_slice.ensures.value
    ∙ places_some c.self.inside.named.entries c.args.name.now c.get.result c.in-Some.places c.in-Some.is c.get.ensures.value
    ∙ ap (λ (named : FieldPlaces). places_of named c.args.name.now) c.self.view_is

pub returns-in-None : goal.returns-in-None
returns-in-None c =
    places_none c.self.inside.named.entries c.args.name.now c.get.result c.in-None.is c.get.ensures.value
    ∙ ap (λ (named : FieldPlaces). places_of named c.args.name.now) c.self.view_is
