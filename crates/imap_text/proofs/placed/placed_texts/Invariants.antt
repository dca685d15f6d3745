use Rattle.std.proofs.Common.{drop, map}
use Rattle.imap_text.proofs.AtPlaces.{AreRead}
use Rattle.imap_text.proofs.placed.placed_texts.Given as goal

abbrev pub invariant-loop-place : goal.invariant-loop-place
invariant-loop-place l = AreRead l.message l.bounds (map (λ text. text.now) l.texts.items) (drop l.place-index l.places) l.initial.places
