use Rattle.std.proofs.Common.{drop}
use Rattle.imap_text.proofs.AtPlaces.{IsJoined}
use Rattle.imap_text.proofs.placed.placed_parts.Given as goal

abbrev pub invariant-loop-place : goal.invariant-loop-place
invariant-loop-place l = IsJoined l.message l.bounds l.parts.items l.start l.end (drop l.place-index l.places) l.initial.places
