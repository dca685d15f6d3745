use Rattle.std.proofs.Common.{rules}
use Rattle.imap_tables.proofs.Zipped.{if_refused}
use Rattle.imap_tables.proofs.cells.three_at.Goals as goal

pub returns-in_err-first-clause-err : goal.returns-in_err-first-clause-err
returns-in_err-first-clause-err g c =
    if_refused _ c.from_residual.result c.in_err-first.field-0.0 (search rules)
    (λ more _ one is_one _ _ _ _. c.in_err-first.ensures.err more one is_one)

pub returns-in_err-first-clause-unread : goal.returns-in_err-first-clause-unread
returns-in_err-first-clause-unread g c =
    if_refused _ c.from_residual.result c.in_err-first.field-0.0 (search rules)
    (λ more _ one _ _. c.in_err-first.ensures.unread more one)

pub returns-in_err-second-clause-err : goal.returns-in_err-second-clause-err
returns-in_err-second-clause-err g c =
    if_refused _ c.from_residual-in_err-second.result c.in_err-second.field-0.0 (search rules)
    (λ more _ _ _ two is_two _ _. c.in_err-second.ensures.err more two is_two)

pub returns-in_err-second-clause-unread : goal.returns-in_err-second-clause-unread
returns-in_err-second-clause-unread g c =
    if_refused _ c.from_residual-in_err-second.result c.in_err-second.field-0.0 (search rules)
    (λ more _ _ two _. c.in_err-second.ensures.unread more two)

pub returns-in_err-third-clause-err : goal.returns-in_err-third-clause-err
returns-in_err-third-clause-err g c =
    if_refused _ c.from_residual-in_err-third.result c.in_err-third.field-0.0 (search rules)
    (λ more _ _ _ _ _ three is_three. c.in_err-third.ensures.err more three is_three)

pub returns-in_err-third-clause-unread : goal.returns-in_err-third-clause-unread
returns-in_err-third-clause-unread g c =
    if_refused _ c.from_residual-in_err-third.result c.in_err-third.field-0.0 (search rules)
    (λ more _ _ _ three. c.in_err-third.ensures.unread more three)
