use Rattle.std.proofs.Common.{◌≡◌, ◌+◌, ◌<◌, length, get_or, ap, arith}
use Rattle.imap_modseq.specs.Numbers.{max_events}
use Rattle.imap_mailbox.specs.declared.message.Message.{Message}
use Rattle.imap_mailbox.specs.Own.{no_own}
use Rattle.imap_mailbox.specs.Rows.{Row}
use Rattle.imap_mailbox.specs.Summary.{row_in}
use Rattle.imap_mailbox.proofs.FirstAbove.{passed_more}
use Rattle.imap_mailbox.proofs.Keeping.{last_in}
use Rattle.imap_mailbox.proofs.above.first_plain_above.Goals as goal

pub plain_row-requires : goal.plain_row-requires
plain_row-requires c =
    let lt : c.loop-place.place < length c.args.messages.now = omega (arith, c.loop-place-test.true, c.requires.within) in
    let m = c.index-messages-place.result in
    let below = last_in (max_events + 1) c.args.messages.now c.loop-place.place m c.requires.places lt in
    let here : m.place ≡ (get_or c.args.messages.now c.loop-place.place m).place = ap (λ (k : Message). k.place) c.index-messages-place.is in
    omega (arith, below, here)

pub loop-place-preserved : goal.loop-place-preserved
loop-place-preserved c =
    let lt : c.loop-place.place < length c.args.messages.now = omega (arith, c.loop-place-test.true, c.requires.within) in
    let m = c.index-messages-place.result in
    let shown : c.plain_row.result.number ≡ (row_in no_own m).number = ap (λ (r : Row). r.number) c.plain_row.ensures in
    passed_more c.args.number c.args.start c.loop-place.place no_own c.args.messages.now m c.loop-place.invariant lt c.index-messages-place.is
    (omega (arith, shown, c.if-number-plain_row.false))
