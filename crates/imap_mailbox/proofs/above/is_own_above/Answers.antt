use Rattle.std.proofs.Common.{◌+◌, ◌<◌, ◌≤◌, length, sym, ◌∙◌, arith}
use Rattle.std.proofs.lemmas.Bool.{ltb-false}
use Rattle.imap_mailbox.specs.Summary.{latest, latest_number}
use Rattle.imap_mailbox.proofs.FirstAbove.{early, quiet_row}
use Rattle.imap_mailbox.proofs.above.is_own_above.Goals as goal
use Rattle.imap_mailbox.proofs.above.is_own_above.Goals.{then-may_have, else-may_have}

pub returns-then-not-is_later : goal.returns-then-not-is_later
returns-then-not-is_later c =
    let own = c.args.own.now.own in
    let m = c.args.message.now in
    let some : 0 < c.args.quiet = omega (arith, c.if-message-quiet.true) in
    let fits : 2 + (m.place + length own.befores) ≤ c.args.number = omega (arith, c.if-message-quiet.true, c.requires.quiet some) in
    let late : latest_number (latest m.uid own) ≤ c.args.number = elim c.if-may_have.branch [
      | then-may_have w ↦ ltb-false c.args.number (latest_number (latest m.uid own)) (sym w.is_later.ensures ∙ sym w.value-is ∙ c.if-not-is_later.true)
      | else-may_have w ↦ early c.args.number (latest_number (latest m.uid own)) c.may_have.result w.if-may_have.false (λ lt. c.may_have.ensures ∙ c.requires.late m.uid lt)
    ] in
    sym (quiet_row c.args.number own m late fits)
