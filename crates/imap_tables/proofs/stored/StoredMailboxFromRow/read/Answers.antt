use Rattle.std.proofs.Common.{◌∙◌, rules, [], ◌∷◌, ap, length}
use Rattle.sqlite.specs.Order.{Row, column}
use Rattle.imap_tables.proofs.Utf8.{whole}
use Rattle.imap_tables.proofs.Zipped.{if_refused}
use Rattle.imap_tables.proofs.stored.StoredMailboxFromRow.read.Goals as goal

pub returns-in_err-validity-clause-err : goal.returns-in_err-validity-clause-err
returns-in_err-validity-clause-err c =
    if_refused _ c.from_residual.result c.in_err-validity.field-0.0 (search rules)
    (λ more it is. c.in_err-validity.ensures.err more (ap length is.0)
    it.validity (ap (λ (r : Row). column r 3) is.0, is.1)
    it.uidnext (ap (λ (r : Row). column r 4) is.0, is.2)
    it.shared (ap (λ (r : Row). column r 5) is.0))

pub returns-in_err-validity-clause-unread : goal.returns-in_err-validity-clause-unread
returns-in_err-validity-clause-unread c =
    if_refused _ c.from_residual.result c.in_err-validity.field-0.0 (search rules)
    (λ more it. c.in_err-validity.ensures.unread more (ap length it.shown)
    (it.validity, ap (λ (r : Row). column r 3) it.shown, it.short.0)
    (it.uidnext, ap (λ (r : Row). column r 4) it.shown, it.short.1)
    (it.shared, ap (λ (r : Row). column r 5) it.shown))

pub returns-in_err-id-clause-err : goal.returns-in_err-id-clause-err
returns-in_err-id-clause-err c =
    if_refused _ c.from_residual-in_err-id.result c.in_err-id.field-0.0 (search rules)
    (λ more it is. c.in_err-id.ensures.err more (ap length is.0)
    it.id (ap (λ (r : Row). column r 0) is.0)
    it.key.tree (ap (λ (r : Row). column r 1) is.0)
    it.key.path (ap (λ (r : Row). column r 2) is.0))

pub returns-in_err-id-clause-unread : goal.returns-in_err-id-clause-unread
returns-in_err-id-clause-unread c =
    if_refused _ c.from_residual-in_err-id.result c.in_err-id.field-0.0 (search rules)
    (λ more it. c.in_err-id.ensures.unread more (ap length it.shown)
    (it.id, ap (λ (r : Row). column r 0) it.shown)
    (it.tree, ap (λ (r : Row). column r 1) it.shown, it.texts.0)
    (it.path, ap (λ (r : Row). column r 2) it.shown, it.texts.1))

pub returns-clause-ok : goal.returns-clause-ok
returns-clause-ok c =
    let rest = c.in_ok-validity.ensures in
    let front = c.in_ok-id.ensures in
    (whole c.args.row.now 6 rest.width ∙ (λ i. front.first i ∷ front.second i ∷ front.third i ∷ rest.first.0 i ∷ rest.second.0 i ∷ rest.third i ∷ []) ∙ search rules, rest.first.1, rest.second.1)
