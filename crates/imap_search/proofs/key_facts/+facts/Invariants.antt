use Rattle.std.proofs.Common.{◌≡◌, map, drop}
use Rattle.imap_query.specs.Keys.{key_of, keys_of}
use Rattle.imap_search.specs.KeyFacts.{both, facts_of_each}
use Rattle.imap_search.proofs.key_facts.+facts.Given as goal

abbrev pub invariant-facts_of_each-loop-key : goal.invariant-facts_of_each-loop-key
invariant-facts_of_each-loop-key l = both l.facts (facts_of_each l.count (keys_of (map key_of (drop l.key-index l.keys)))) ≡ facts_of_each l.initial.count (keys_of (map key_of l.initial.keys))
