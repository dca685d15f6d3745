use Rattle.std.proofs.Common.{drop}
use Rattle.imap_text.proofs.AskedNames.{AreAsked}
use Rattle.imap_text.proofs.field_places.asked_names.Given as goal

abbrev pub invariant-loop-name : goal.invariant-loop-name
invariant-loop-name l = AreAsked l.asked.keys (drop l.name-index l.names) l.initial.names
