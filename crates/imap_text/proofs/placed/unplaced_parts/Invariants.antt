use Rattle.std.proofs.Common.{drop}
use Rattle.imap_text.proofs.AtPlaces.{IsPassedOver}
use Rattle.imap_text.proofs.placed.unplaced_parts.Given as goal

abbrev pub invariant-loop-place : goal.invariant-loop-place
invariant-loop-place l = IsPassedOver l.message l.bounds l.parts.items l.start (drop l.place-index l.places) l.initial.places
