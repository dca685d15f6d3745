use Rattle.std.proofs.Common.{sym, arith, length, ◌≤◌, ◌+◌}
use Rattle.imap_mailbox.proofs.Last.{not_above}
use Rattle.imap_mailbox.proofs.row.own_is_above.Goals as goal

pub returns-then-number_after-number : goal.returns-then-number_after-number
returns-then-number_after-number c =
    let len = c.len.ensures in
    let is = c.number_after.ensures in
    let below = c.if-number_after-number.true in
    let fits : 2 + (c.args.message.now.place + length c.args.own.now.own.befores) ≤ c.args.number = omega (arith, len, is, below) in
    sym (not_above c.args.number c.last_number.result c.args.own.now.own c.args.message.now c.last_number.ensures c.if-last_number-number.true fits)
