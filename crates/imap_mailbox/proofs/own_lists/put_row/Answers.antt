use Rattle.std.proofs.Common.{◌≤◌, length, subst, arith}
use Rattle.imap_modseq.specs.Merge.{AreInOrder}
use Rattle.imap_mailbox.specs.Held.{list_at}
use Rattle.imap_mailbox.specs.Own.{Own, with_kept}
use Rattle.imap_mailbox.proofs.Changes.{len_put}
use Rattle.imap_mailbox.proofs.Marking.{list_found, one_more, room_before}
use Rattle.imap_mailbox.proofs.own_lists.put_row.Goals as goal

pub push_reserved-requires-clause-room : goal.push_reserved-requires-clause-room
push_reserved-requires-clause-room c =
    let had = room_before c.args.own.now c.args.user.now c.in-Some.list c.get_mut.result c.in-Some.is c.get_mut.ensures.value in
    omega (arith, had, c.requires.room)

pub push_reserved-requires-clause-place : goal.push_reserved-requires-clause-place
push_reserved-requires-clause-place c =
    subst (λ (l : Own). length l.befores ≤ c.args.row.place) (list_found c.args.own.now c.args.user.now c.in-Some.list c.get_mut.result c.in-Some.is c.get_mut.ensures.value) c.requires.place

pub push_reserved-requires-clause-order : goal.push_reserved-requires-clause-order
push_reserved-requires-clause-order c =
    subst (λ (l : Own). AreInOrder 0 c.args.row.before l.befores) (list_found c.args.own.now c.args.user.now c.in-Some.list c.get_mut.result c.in-Some.is c.get_mut.ensures.value) c.requires.order

pub returns-in-Some : goal.returns-in-Some
returns-in-Some c =
    one_more c.args.own.now _ c.args.user.now c.in-Some.list _ c.get_mut.result c.in-Some.is c.get_mut.ensures.value (c.get_mut.follows.holds c.push_reserved.new.self)
    (with_kept c.args.row) (omega (arith, len_put c.args.row (list_at c.args.own.now c.args.user.now) c.requires.place)) c.push_reserved.ensures.own
