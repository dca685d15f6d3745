use Rattle.std.proofs.Common.{◌≡◌, map, take}
use Rattle.imap_query.specs.Keys.{key_of}
use Rattle.imap_query.proofs.search_copy.+copies.Given as goal

abbrev pub invariant-copy_keys-loop-key : goal.invariant-copy_keys-loop-key
invariant-copy_keys-loop-key l = map key_of l.copies.items ≡ map key_of (take l.key-index l.keys)
