use Rattle.std.proofs.Common.{◌∙◌, rules, [], ◌∷◌, ap, length}
use Rattle.sqlite.specs.Order.{Row, column}
use Rattle.imap_tables.proofs.Utf8.{whole}
use Rattle.imap_tables.proofs.Zipped.{if_refused}
use Rattle.imap_tables.proofs.message_rows.StoredHeadFromRow.read.Goals as goal

pub returns-in_err-rowid-clause-err : goal.returns-in_err-rowid-clause-err
returns-in_err-rowid-clause-err c =
    if_refused _ c.from_residual.result c.in_err-rowid.field-0.0 (search rules)
    (λ more it is. c.in_err-rowid.ensures.err more (ap length is.0)
    it.rowid (ap (λ (r : Row). column r 0) is.0)
    it.mailbox (ap (λ (r : Row). column r 1) is.0)
    it.uid (ap (λ (r : Row). column r 2) is.0, is.1))

pub returns-in_err-rowid-clause-unread : goal.returns-in_err-rowid-clause-unread
returns-in_err-rowid-clause-unread c =
    if_refused _ c.from_residual.result c.in_err-rowid.field-0.0 (search rules)
    (λ more it. c.in_err-rowid.ensures.unread more (ap length it.shown)
    (it.rowid, ap (λ (r : Row). column r 0) it.shown)
    (it.mailbox, ap (λ (r : Row). column r 1) it.shown)
    (it.uid, ap (λ (r : Row). column r 2) it.shown, it.short.0))

pub returns-in_err-date-clause-err : goal.returns-in_err-date-clause-err
returns-in_err-date-clause-err c =
    if_refused _ c.from_residual-in_err-date.result c.in_err-date.field-0.0 (search rules)
    (λ more it is. c.in_err-date.ensures.err more (ap length is.0)
    it.date (ap (λ (r : Row). column r 3) is.0)
    it.flags (ap (λ (r : Row). column r 4) is.0, is.2)
    it.place (ap (λ (r : Row). column r 5) is.0))

pub returns-in_err-date-clause-unread : goal.returns-in_err-date-clause-unread
returns-in_err-date-clause-unread c =
    if_refused _ c.from_residual-in_err-date.result c.in_err-date.field-0.0 (search rules)
    (λ more it. c.in_err-date.ensures.unread more (ap length it.shown)
    (it.date, ap (λ (r : Row). column r 3) it.shown, it.texts)
    (it.flags, ap (λ (r : Row). column r 4) it.shown, it.short.1)
    (it.place, ap (λ (r : Row). column r 5) it.shown))

pub returns-clause-ok : goal.returns-clause-ok
returns-clause-ok c =
    let front = c.in_ok-rowid.ensures in
    let rest = c.in_ok-date.ensures in
    (whole c.args.row.now 6 front.width ∙ (λ i. front.first i ∷ front.second i ∷ front.third.0 i ∷ rest.first i ∷ rest.second.0 i ∷ rest.third i ∷ []) ∙ search rules, front.third.1, rest.second.1)
