use Rattle.std.proofs.Common.{map, take}
use Rattle.imap_query.specs.Keys.{key_of}
use Rattle.imap_search.specs.Ready.{AreReady}
use Rattle.imap_search.proofs.ready_key.+ready.Given as goal

abbrev pub invariant-ready_keys-loop-key : goal.invariant-ready_keys-loop-key
invariant-ready_keys-loop-key l = AreReady l.last l.last_uid l.found.items (map key_of (take l.key-index l.keys))
