use Rattle.std.proofs.Common.{◌∙◌, rules, [], ◌∷◌, ap, length}
use Rattle.sqlite.specs.Order.{Row, column}
use Rattle.imap_tables.proofs.Utf8.{whole}
use Rattle.imap_tables.proofs.Zipped.{if_refused}
use Rattle.imap_tables.proofs.stored.StoredSeenFlagFromRow.read.Goals as goal

pub returns-in_err-before-clause-err : goal.returns-in_err-before-clause-err
returns-in_err-before-clause-err c =
    if_refused _ c.from_residual.result c.in_err-before.field-0.0 (search rules)
    (λ more it is. c.in_err-before.ensures.err more (ap length is.0)
    it.row.before (ap (λ (r : Row). column r 4) is.0)
    it.row.uid (ap (λ (r : Row). column r 5) is.0, is.1)
    it.row.seen (ap (λ (r : Row). column r 6) is.0))

pub returns-in_err-before-clause-unread : goal.returns-in_err-before-clause-unread
returns-in_err-before-clause-unread c =
    if_refused _ c.from_residual.result c.in_err-before.field-0.0 (search rules)
    (λ more it. c.in_err-before.ensures.unread more (ap length it.shown)
    (it.before, ap (λ (r : Row). column r 4) it.shown)
    (it.uid, ap (λ (r : Row). column r 5) it.shown, it.short)
    (it.seen, ap (λ (r : Row). column r 6) it.shown))

pub returns-in_err-rowid-clause-err : goal.returns-in_err-rowid-clause-err
returns-in_err-rowid-clause-err c =
    if_refused _ c.from_residual-in_err-rowid.result c.in_err-rowid.field-0.0 (search rules)
    (λ more it is. c.in_err-rowid.ensures.err more (ap length is.0)
    it.rowid (ap (λ (r : Row). column r 0) is.0)
    it.mailbox (ap (λ (r : Row). column r 1) is.0)
    it.row.user (ap (λ (r : Row). column r 2) is.0)
    it.row.own (ap (λ (r : Row). column r 3) is.0))

pub returns-in_err-rowid-clause-unread : goal.returns-in_err-rowid-clause-unread
returns-in_err-rowid-clause-unread c =
    if_refused _ c.from_residual-in_err-rowid.result c.in_err-rowid.field-0.0 (search rules)
    (λ more it. c.in_err-rowid.ensures.unread more (ap length it.shown)
    (it.rowid, ap (λ (r : Row). column r 0) it.shown)
    (it.mailbox, ap (λ (r : Row). column r 1) it.shown)
    (it.user, ap (λ (r : Row). column r 2) it.shown, it.texts)
    (it.own, ap (λ (r : Row). column r 3) it.shown))

pub returns-clause-ok : goal.returns-clause-ok
returns-clause-ok c =
    let rest = c.in_ok-before.ensures in
    let front = c.in_ok-rowid.ensures in
    (whole c.args.row.now 7 rest.width ∙ (λ i. front.first i ∷ front.second i ∷ front.third i ∷ front.fourth i ∷ rest.first i ∷ rest.second.0 i ∷ rest.third i ∷ []) ∙ search rules, rest.second.1)
