use Rattle.imap_search.proofs.Days.{earlier_decides, later_decides}
use Rattle.imap_search.proofs.flags.is_dated.Goals as goal
use Rattle.imap_syntax.specs.DayNumbers.{day_number}

pub returns-then-not-is_before : goal.returns-then-not-is_before
returns-then-not-is_before c =
    rw c.in-On.is
    (later_decides (day_number c.args.day) (day_number c.args.wanted) c.is_before-in-On.result c.is_before-then-not-is_before.result c.is_before-in-On.ensures c.if-not-is_before.true c.is_before-then-not-is_before.ensures)

pub returns-else-not-is_before : goal.returns-else-not-is_before
returns-else-not-is_before c =
    rw c.in-On.is (earlier_decides (day_number c.args.day) (day_number c.args.wanted) c.is_before-in-On.result c.is_before-in-On.ensures c.if-not-is_before.false)
