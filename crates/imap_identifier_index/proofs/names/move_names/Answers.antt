use Rattle.std.proofs.Common.{◌+◌, Some, List, ◌∷◌, drop, map, ap, subst, ◌∙◌}
use Rattle.std.proofs.Common.{drop_of_length-le}
use Rattle.imap_names.specs.Name.{Name}
use Rattle.imap_names.specs.Order.{moved}
use Rattle.imap_identifier_index.specs.Names.{IsPut}
use Rattle.imap_identifier_index.proofs.Renaming.{IsWalking, cut_next, firsts_moved, walk_begins, walk_ends, walk_goes_on}
use Rattle.imap_identifier_index.proofs.names.move_names.Goals as goal

pub loop-arrival-init : goal.loop-arrival-init
loop-arrival-init g c =
    walk_begins c.args.names.now.items c.args.old.now c.args.new.now (map (λ e. e.0) c.args.run.now) (map (λ a. a.0) c.args.arrivals.now)
    (c.requires ∙ firsts_moved (moved c.args.old.now c.args.new.now) c.args.run.now)

pub loop-arrival-preserved : goal.loop-arrival-preserved
loop-arrival-preserved g c =
    let first : Name = c.in-Some.first.now.0 in
    let to : Name = c.arrival-item.result.0 in
    let rest = map (λ e. e.0) c.in-Some.later.now in
    let came : List Name = map (λ a. a.0) (drop (c.loop-arrival.arrival-index + 1) c.args.arrivals.now) in
    let run = map (λ e. e.0) c.args.run.now in
    let put : IsPut c.number.result (Some first) (Some to) c.loop-arrival.names.items c.change_name.new.names.items =
    subst (λ (n : Name). IsPut c.number.result (Some n) (Some to) c.loop-arrival.names.items c.change_name.new.names.items) c.as_ref.ensures.name (c.change_name.ensures c.if-not-change_name.false) in
    walk_goes_on c.args.names.now.items c.loop-arrival.names.items c.change_name.new.names.items c.args.old.now c.args.new.now run first rest to came c.number.result
    (subst (λ (l : List Name). IsWalking c.args.names.now.items c.loop-arrival.names.items c.args.old.now c.args.new.now run l (to ∷ came)) (ap (map (λ e. e.0)) c.in-Some.ensures.cases.0)
    (subst (IsWalking c.args.names.now.items c.loop-arrival.names.items c.args.old.now c.args.new.now run (map (λ e. e.0) c.loop-arrival.rest.now))
    (cut_next c.args.arrivals.now c.loop-arrival.arrival-index c.arrival-item.result c.loop-arrival-test.true c.arrival-item.is) c.loop-arrival.invariant))
    put

pub returns : goal.returns
returns g c = λ done may k.
    walk_ends c.args.names.now.items c.loop-arrival.names.items c.args.old.now c.args.new.now (map (λ e. e.0) c.args.run.now) (map (λ e. e.0) c.loop-arrival.rest.now) _ c.loop-arrival.invariant
    (ap (map (λ a. a.0)) (drop_of_length-le c.args.arrivals.now c.loop-arrival-test.false)) may k
