use Rattle.std.proofs.Common.{◌≡◌, ◌↔◌, map, drop}
use Rattle.imap_query.specs.Keys.{key_of}
use Rattle.imap_query.proofs.search_copy.+sames.Given as goal

abbrev pub invariant-are_same_keys-loop-key : goal.invariant-are_same_keys-loop-key
invariant-are_same_keys-loop-key l = (map key_of (drop l.key-index l.keys) ≡ map key_of l.rest) ↔ (map key_of l.initial.keys ≡ map key_of l.initial.others)
