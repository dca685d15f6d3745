use Rattle.std.proofs.Common.{◌≡◌, ◌∷◌, [], List, length, IsPermutation, ap, subst, sym, arith}
use Rattle.std.specs.Vec.Iter.{into_iter_items}
use Rattle.imap_name_map.proofs.RunInserts.{nothing_left}
use Rattle.imap_world.specs.Restored.{Subscribes}
use Rattle.imap_world.specs.Subscription.{Subscription}
use Rattle.imap_world.proofs.Subscribing.{AreSoFar, all_so_far, none_so_far, one_so_far, refused}
use Rattle.imap_world.proofs.restored.subscriptions_of.Goals as goal

pub loop-row-init : goal.loop-row-init
loop-row-init c =
    let gives = c.into_iter-row-iterator.ensures.into_iter_gives in
    record {
      so_far = none_so_far c.args.rows.items (into_iter_items c.into_iter-row-iterator.result) c.new-sets.result c.new-sets.ensures
          (subst (IsPermutation c.args.rows.items) (sym gives.0) c.sort_subscriptions.ensures);
      count = omega (arith, gives.1, c.sort_subscriptions.new.rows.ok.0, ap length gives.0);
    }

pub returns-in-Err : goal.returns-in-Err
returns-in-Err c =
    let at = c.loop-row in
    let rest = into_iter_items c.next.new.self in
    let front : into_iter_items at.row-iterator ≡ c.in-Some.row ∷ rest = c.in-Some.ensures.steps.0 in
    refused c.args.rows.items rest c.in-Some.row at.sets c.add_subscription.new.sets c.in-Err.error
    (subst (λ (l : List Subscription). AreSoFar c.args.rows.items l at.sets) front at.invariant.so_far)
    (subst (Subscribes c.in-Some.row at.sets c.add_subscription.new.sets) c.in-Err.is c.add_subscription.ensures)

pub loop-row-preserved : goal.loop-row-preserved
loop-row-preserved c =
    let at = c.loop-row in
    let rest = into_iter_items c.next.new.self in
    let front : into_iter_items at.row-iterator ≡ c.in-Some.row ∷ rest = c.in-Some.ensures.steps.0 in
    let gone = c.in-Some.ensures.steps.1 in
    let short = ap length front in
    let made = subst (Subscribes c.in-Some.row at.sets c.add_subscription.new.sets) c.in_default.is c.add_subscription.ensures in
    record {
      so_far = one_so_far c.args.rows.items rest c.in-Some.row at.sets c.add_subscription.new.sets made.0 made.1
          (subst (λ (l : List Subscription). AreSoFar c.args.rows.items l at.sets) front at.invariant.so_far);
      count = omega (arith, gone, short, at.invariant.count);
    }

pub returns : goal.returns
returns c =
    let at = c.loop-row in
    let empty : into_iter_items at.row-iterator ≡ [] = nothing_left _ _ at.invariant.count c.in-None.ensures.steps.0 in
    all_so_far c.args.rows.items at.sets (subst (λ (l : List Subscription). AreSoFar c.args.rows.items l at.sets) empty at.invariant.so_far)
