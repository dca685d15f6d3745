use Rattle.std.proofs.Common.{◌∙◌, length, sym, arith}
use Rattle.imap_mailbox.specs.Own.{own_at}
use Rattle.imap_mailbox.proofs.mailbox.Mailbox.mark_seen.Goals as goal

pub put_seen-requires-clause-few : goal.put_seen-requires-clause-few
put_seen-requires-clause-few c =
    let same = (λ i. length (own_at (c.reserve_seen.ensures.contents i).own c.args.user.now).befores) ∙ sym c.own_len.ensures.events in
    let few = c.own_len.ensures.few in
    let other = c.if-own_len-eq-MAX_EVENTS.false in
    omega (arith, same, few, other)
