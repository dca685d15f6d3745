use Rattle.std.proofs.Common.{rules}
use Rattle.imap_tables.proofs.Zipped.{if_refused}
use Rattle.imap_tables.proofs.cells.four_at.Goals as goal

pub returns-in_err-first-clause-err : goal.returns-in_err-first-clause-err
returns-in_err-first-clause-err g c =
    if_refused _ c.from_residual.result c.in_err-first.field-0.0 (search rules)
    (λ more wide one is_one two is_two three is_three _ _.
    c.in_err-first.ensures.err more wide one is_one two is_two three is_three)

pub returns-in_err-first-clause-unread : goal.returns-in_err-first-clause-unread
returns-in_err-first-clause-unread g c =
    if_refused _ c.from_residual.result c.in_err-first.field-0.0 (search rules)
    (λ more wide one two three _. c.in_err-first.ensures.unread more wide one two three)

pub returns-in_err-fourth-clause-err : goal.returns-in_err-fourth-clause-err
returns-in_err-fourth-clause-err g c =
    if_refused _ c.from_residual-in_err-fourth.result c.in_err-fourth.field-0.0 (search rules)
    (λ more _ _ _ _ _ _ _ four is_four. c.in_err-fourth.ensures.err more four is_four)

pub returns-in_err-fourth-clause-unread : goal.returns-in_err-fourth-clause-unread
returns-in_err-fourth-clause-unread g c =
    if_refused _ c.from_residual-in_err-fourth.result c.in_err-fourth.field-0.0 (search rules)
    (λ more _ _ _ _ four. c.in_err-fourth.ensures.unread more four)
