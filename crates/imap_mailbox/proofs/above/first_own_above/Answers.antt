use Rattle.std.proofs.Common.{◌≡◌, ◌+◌, ◌<◌, length, get_or, sym, ap, ◌∙◌, arith}
use Rattle.std.proofs.lemmas.Bool.{ltb-false}
use Rattle.imap_modseq.specs.Numbers.{max_events}
use Rattle.imap_mailbox.specs.declared.message.Message.{Message}
use Rattle.imap_mailbox.specs.Summary.{row_in}
use Rattle.imap_mailbox.proofs.FirstAbove.{passed_more}
use Rattle.imap_mailbox.proofs.Keeping.{last_in}
use Rattle.imap_mailbox.proofs.above.first_own_above.Goals as goal

pub is_own_above-requires-clause-place : goal.is_own_above-requires-clause-place
is_own_above-requires-clause-place c =
    let lt : c.loop-place.place < length c.args.messages.now = omega (arith, c.loop-place-test.true, c.requires.within) in
    let m = c.index-messages-place.result in
    let below = last_in (max_events + 1) c.args.messages.now c.loop-place.place m c.requires.places lt in
    let here : m.place ≡ (get_or c.args.messages.now c.loop-place.place m).place = ap (λ (k : Message). k.place) c.index-messages-place.is in
    omega (arith, below, here)

pub loop-place-preserved : goal.loop-place-preserved
loop-place-preserved c =
    let lt : c.loop-place.place < length c.args.messages.now = omega (arith, c.loop-place-test.true, c.requires.within) in
    let m = c.index-messages-place.result in
    passed_more c.args.number c.args.start c.loop-place.place c.args.own.now.own c.args.messages.now m c.loop-place.invariant lt c.index-messages-place.is
    (ltb-false c.args.number (row_in c.args.own.now.own m).number (sym c.is_own_above.ensures ∙ c.if-is_own_above.false))
