use Rattle.imap_syntax.proofs.DayOrder.{parts_agree}
use Rattle.imap_syntax.proofs.date.Date.is_before.Goals as goal

pub returns : goal.returns
returns c =
    let a = c.self.inside in
    let b = c.other.inside in
    rw (c.order_of-order.ensures, c.order_of.ensures)
    (parts_agree a.year b.year a.month b.month a.day b.day c.args.self c.args.other c.self.view_is c.other.view_is c.self.invariant c.other.invariant)
