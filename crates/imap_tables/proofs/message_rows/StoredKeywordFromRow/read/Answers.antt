use Rattle.std.proofs.Common.{◌∙◌, rules, [], ◌∷◌, ap, length}
use Rattle.sqlite.specs.Order.{Row, column}
use Rattle.imap_tables.proofs.Utf8.{whole}
use Rattle.imap_tables.proofs.Zipped.{if_refused}
use Rattle.imap_tables.proofs.message_rows.StoredKeywordFromRow.read.Goals as goal

pub returns-in_err-rowid-clause-err : goal.returns-in_err-rowid-clause-err
returns-in_err-rowid-clause-err c =
    if_refused _ c.from_residual.result c.in_err-rowid.field-0.0 (search rules)
    (λ more it is. c.in_err-rowid.ensures.err more (ap length is.0)
    it.rowid (ap (λ (r : Row). column r 0) is.0)
    it.mailbox (ap (λ (r : Row). column r 1) is.0)
    it.uid (ap (λ (r : Row). column r 2) is.0, is.1)
    it.word (ap (λ (r : Row). column r 3) is.0))

pub returns-in_err-rowid-clause-unread : goal.returns-in_err-rowid-clause-unread
returns-in_err-rowid-clause-unread c =
    if_refused _ c.from_residual.result c.in_err-rowid.field-0.0 (search rules)
    (λ more it. c.in_err-rowid.ensures.unread more (ap length it.shown)
    (it.rowid, ap (λ (r : Row). column r 0) it.shown)
    (it.mailbox, ap (λ (r : Row). column r 1) it.shown)
    (it.uid, ap (λ (r : Row). column r 2) it.shown, it.short)
    (it.word, ap (λ (r : Row). column r 3) it.shown, it.texts))

pub returns-clause-ok : goal.returns-clause-ok
returns-clause-ok c =
    let got = c.in_ok-rowid.ensures in
    (whole c.args.row.now 4 got.width ∙ (λ i. got.first i ∷ got.second i ∷ got.third.0 i ∷ got.fourth i ∷ []) ∙ search rules, got.third.1)
