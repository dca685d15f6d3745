use Rattle.std.proofs.Common.{◌≡◌, ◌++◌, map, take, filter_map}
use Rattle.imap_identifier_index.specs.Names.{name_at}
use Rattle.imap_identifier_index.proofs.names.push_named.Given as goal

abbrev pub invariant-loop-number : goal.invariant-loop-number
invariant-loop-number l =
    map (λ name. name.now) l.list.items ≡ map (λ name. name.now) l.fn.list.items ++ filter_map (name_at l.names) (take l.number-index l.numbers)
