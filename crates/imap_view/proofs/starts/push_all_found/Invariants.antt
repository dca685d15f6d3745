use Rattle.std.proofs.Common.{List, map, string_bytes, take, Contains}
use Rattle.imap_world.specs.Index.{IsIndexOf, Lists}
use Rattle.imap_view.specs.Starts.{AddsFound}
use Rattle.imap_view.proofs.starts.push_all_found.Given as goal

abbrev pub invariant-loop-identifier : goal.invariant-loop-identifier
invariant-loop-identifier l =
    (lists : Lists) → IsIndexOf l.index lists
    → AddsFound lists (λ text. Contains (map string_bytes (take l.identifier-index l.identifiers)) text)
    (map (λ name. name.now) l.fn.names.items) (map (λ name. name.now) l.names.items)
