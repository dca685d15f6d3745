use Rattle.std.proofs.Common.{◌∙◌}
use Rattle.imap_host.proofs.LetGo.{newest_still, remembered_still}
use Rattle.imap_host.proofs.desk.DeskRoom.step.Goals as goal

pub returns-clause-ok : goal.returns-clause-ok
returns-clause-ok g c =
    remembered_still c.call.new.seat.base c.args.self.now.seat.now.receipts.items c.args.step.now c.in_ok-receipt.receipt c.call.new.seat.receipts.items c.in_ok-receipt.ensures.kept
    c.turn_if_due.new.seat.receipts.items c.turn_if_due.ensures.receipts

pub returns-clause-newest : goal.returns-clause-newest
returns-clause-newest g c =
    newest_still c.call.new.seat.base c.args.self.now.seat.now.receipts.items c.args.step.now c.in_ok-receipt.receipt c.call.new.seat.receipts.items c.in_ok-receipt.ensures.kept
    c.turn_if_due.new.seat.receipts.items c.turn_if_due.ensures.receipts

pub returns-clause-counted : goal.returns-clause-counted
returns-clause-counted g c = c.turn_if_due.ensures.amount ∙ c.in_ok-receipt.ensures.amount
