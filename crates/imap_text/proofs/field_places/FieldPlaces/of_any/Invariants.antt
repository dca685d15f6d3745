use Rattle.imap_text.proofs.AskedNames.{AreGathered}
use Rattle.imap_text.proofs.field_places.FieldPlaces.of_any.Given as goal

abbrev pub invariant-loop-name : goal.invariant-loop-name
invariant-loop-name l = AreGathered l.self l.places.items l.name-iterator l.initial.name-iterator
