use Rattle.std.proofs.Common.{◌≡◌, ◌∙◌, ap, rules}
use Rattle.std.specs.Prelude.{nat_eq}
use Rattle.std.specs.Map.Iter.{deref}
use Rattle.std.specs.List.{dedup, list_any}
use Rattle.std.proofs.lemmas.List.Filters.{dedup_is}
use Rattle.std.proofs.lemmas.Map.Iter.{rest_all}
use Rattle.imap_text.proofs.AskedNames.{in_order_once, same_places, gathered_all}
use Rattle.imap_text.proofs.field_places.FieldPlaces.of_any.Goals as goal
use Rattle.imap_text.proofs.field_places.FieldPlaces.of_any.Goals.{After-drop-asked-2}

once : (c : After-drop-asked-2) → c.dedup.new.self.items ≡ dedup nat_eq c.sort.new.self.items
once c = dedup_is nat_eq _ _ c.dedup.ensures.filtered

pub returns-clause-order : goal.returns-clause-order
returns-clause-order c = in_order_once c.sort.new.self.items c.dedup.new.self.items c.in_ok-sort.ensures.sorted (once c)

pub returns-clause-places : goal.returns-clause-places
returns-clause-places c = λ place.
    let none = rest_all deref c.loop-name.name-iterator c.next.new.self c.next.result c.in-None.is c.next.ensures.steps in
    let start : c.into_iter-name-iterator.result ≡ c.in_ok-asked.asked.keys = search rules in
    same_places c.loop-name.places.items c.sort.new.self.items c.dedup.new.self.items c.in_ok-sort.ensures.permutation (once c) place
    ∙ gathered_all c.args.self.now c.loop-name.places.items c.loop-name.name-iterator c.into_iter-name-iterator.result c.args.names.now none c.loop-name.invariant
    (λ test. ap (list_any (λ name. test name.items)) start ∙ c.in_ok-asked.ensures test) place
