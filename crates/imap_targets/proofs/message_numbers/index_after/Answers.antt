use Rattle.std.proofs.Common.{arith}
use Rattle.imap_mailbox.specs.Rows.{first_uid}
use Rattle.imap_session.specs.Held.{uid_limit}
use Rattle.imap_targets.proofs.Spanned.{upper_uids}
use Rattle.imap_targets.proofs.message_numbers.index_after.Goals as goal

pub returns-in-Some-clause-more : goal.returns-in-Some-clause-more
returns-in-Some-clause-more c = λ index d le lt.
    let high = upper_uids c.in-Some.above first_uid uid_limit c.args.known.now.list index d c.len-count.ensures.valid (omega (arith, le, c.place_from.ensures.place)) lt in
    omega (arith, high, c.in-Some.ensures)
