use Rattle.std.proofs.Common.{◌≤◌, sym, ap, ◌∙◌, arith}
use Rattle.std.specs.Option.{option_copied_mut}
use Rattle.std.specs.FinMap as fin
use Rattle.imap_mailbox.proofs.Marking.{same_lists, room_after, on_ok, some_of, same_kept}
use Rattle.imap_mailbox.proofs.marks.reserve_list.Goals as goal

pub returns-in-Some-clause-lists : goal.returns-in-Some-clause-lists
returns-in-Some-clause-lists c = same_lists c.args.own.now _ c.args.user.now c.in-Some.list _ c.get_mut.result c.in-Some.is c.get_mut.ensures.value (c.get_mut.follows.holds c.reserve.new.self) c.reserve.ensures.own

pub returns-in-Some-clause-ok : goal.returns-in-Some-clause-ok
returns-in-Some-clause-ok c =
    let has = room_after c.args.own.now _ c.args.user.now c.in-Some.list c.reserve.new.self c.get_mut.result c.in-Some.is c.get_mut.ensures.value (c.get_mut.follows.holds c.reserve.new.self) in
    on_ok (c.args.more ≤ c.reserve.new.self.room) _ c.reserve.result (λ le. omega (arith, le, has)) c.reserve.ensures.ok

pub returns-in-None-clause-ok : goal.returns-in-None-clause-ok
returns-in-None-clause-ok c = absurd (some_of (fin.get c.args.own.now.map c.args.user.now) c.requires (sym c.get_mut.ensures.value ∙ ap option_copied_mut c.in-None.is))

pub returns-in-Some-clause-counted : goal.returns-in-Some-clause-counted
returns-in-Some-clause-counted c messages counted =
    same_kept c.args.own.now _ c.args.user.now c.in-Some.list c.reserve.new.self c.get_mut.result c.in-Some.is c.get_mut.ensures.value (c.get_mut.follows.holds c.reserve.new.self) messages c.reserve.ensures.own c.reserve.ensures.seen counted
