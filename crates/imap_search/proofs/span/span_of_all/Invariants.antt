use Rattle.std.proofs.Common.{map}
use Rattle.imap_query.specs.Keys.{key_of}
use Rattle.imap_search.specs.Span.{AreAmong}
use Rattle.imap_search.proofs.span.span_of_all.Given as goal

abbrev pub invariant-loop-key : goal.invariant-loop-key
invariant-loop-key l = AreAmong (map key_of l.keys) l.last l.last_uid l.known.list l.start l.end
