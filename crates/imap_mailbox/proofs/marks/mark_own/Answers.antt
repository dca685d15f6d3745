use Rattle.std.proofs.Common.{◌<◌, length, subst, arith}
use Rattle.std.proofs.lemmas.List.{length_push}
use Rattle.imap_modseq.specs.Merge.{AreInOrder}
use Rattle.imap_modseq.specs.Numbers.{max_events}
use Rattle.imap_mailbox.specs.Held.{list_at}
use Rattle.imap_mailbox.specs.Own.{Own, with_change}
use Rattle.imap_mailbox.proofs.Marking.{room_after, list_found, one_more, room_before, one_counted}
use Rattle.imap_mailbox.proofs.marks.mark_own.Goals as goal

pub push_next-requires-clause-room : goal.push_next-requires-clause-room
push_next-requires-clause-room c =
    let had = room_before c.args.own.now c.args.user.now c.in-Some.list c.get_mut.result c.in-Some.is c.get_mut.ensures.value in
    omega (arith, had, c.requires.room)

pub push_next-requires-clause-few : goal.push_next-requires-clause-few
push_next-requires-clause-few c = subst (λ (l : Own). length l.befores < max_events) (list_found c.args.own.now c.args.user.now c.in-Some.list c.get_mut.result c.in-Some.is c.get_mut.ensures.value) c.requires.few

pub push_next-requires-clause-order : goal.push_next-requires-clause-order
push_next-requires-clause-order c =
    subst (λ (l : Own). AreInOrder 0 c.args.change.before l.befores) (list_found c.args.own.now c.args.user.now c.in-Some.list c.get_mut.result c.in-Some.is c.get_mut.ensures.value) c.requires.order

pub returns-in-Some-clause-lists : goal.returns-in-Some-clause-lists
returns-in-Some-clause-lists c = one_more c.args.own.now _ c.args.user.now c.in-Some.list _ c.get_mut.result c.in-Some.is c.get_mut.ensures.value (c.get_mut.follows.holds c.push_next.new.self)
    (with_change c.args.change) (omega (arith, length_push (list_at c.args.own.now c.args.user.now).befores c.args.change.before)) c.push_next.ensures.own

pub returns-in-Some-clause-room : goal.returns-in-Some-clause-room
returns-in-Some-clause-room c =
    let had = room_before c.args.own.now c.args.user.now c.in-Some.list c.get_mut.result c.in-Some.is c.get_mut.ensures.value in
    let has = room_after c.args.own.now _ c.args.user.now c.in-Some.list c.push_next.new.self c.get_mut.result c.in-Some.is c.get_mut.ensures.value (c.get_mut.follows.holds c.push_next.new.self) in
    omega (arith, had, has, c.push_next.ensures.room)

pub returns-in-Some-clause-counted : goal.returns-in-Some-clause-counted
returns-in-Some-clause-counted c messages rising there counted =
    one_counted c.args.own.now _ c.args.user.now c.in-Some.list c.push_next.new.self c.get_mut.result c.in-Some.is c.get_mut.ensures.value (c.get_mut.follows.holds c.push_next.new.self) messages c.args.change rising there
    c.push_next.ensures.own c.push_next.ensures.seen counted
