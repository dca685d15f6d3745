use Rattle.std.proofs.Common.{rules}
use Rattle.sqlite.specs.Held.{state}
use Rattle.sqlite.specs.Tree.{Trees}
use Rattle.imap_tables.specs.Contents.{AllShowAt}
use Rattle.imap_tables.specs.Stored.{ShowsEpoch, ShowsMark, ShowsMeta, ShowsSubscription}
use Rattle.imap_tables.proofs.Read.{failed_then, query_failed, query_tells, query_then, tables_stay}
use Rattle.imap_tables.proofs.reading.read_all.Goals as goal

pub read_four-requires-2-clause-schema : goal.read_four-requires-2-clause-schema
read_four-requires-2-clause-schema g c =
    tables_stay (state g.S.Store c.args.conn.now) (state g.S.Store c.read_four.new.conn) c.requires.schema c.in_ok-mailboxes.ensures.query

pub returns-in_err-mailboxes-clause-query : goal.returns-in_err-mailboxes-clause-query
returns-in_err-mailboxes-clause-query g c =
    query_failed (state g.S.Store c.args.conn.now) (state g.S.Store c.read_four.new.conn) _ c.from_residual.result
    c.in_err-mailboxes.field-0.0 (search rules) c.in_err-mailboxes.ensures.query

pub returns-in_default-clause-query : goal.returns-in_default-clause-query
returns-in_default-clause-query g c =
    query_tells (state g.S.Store c.args.conn.now) (state g.S.Store c.read_four.new.conn)
    (λ unread all. unread all.mailboxes all.entries all.messages all.gone) (rw c.in_default.is at c.in_ok-mailboxes.ensures.query)

pub returns-in_err-marks-clause-query : goal.returns-in_err-marks-clause-query
returns-in_err-marks-clause-query g c =
    failed_then (state g.S.Store c.args.conn.now) (state g.S.Store c.read_four.new.conn) (state g.S.Store c.read_four-2.new.conn)
    _ c.from_residual-in_err-marks.result c.in_err-marks.field-0.0 (search rules)
    c.in_ok-mailboxes.ensures.query c.in_err-marks.ensures.query

pub returns-in_default-2-clause-query : goal.returns-in_default-2-clause-query
returns-in_default-2-clause-query g c =
    let Unread : Trees → Type 0 = λ db. AllShowAt db 4 ShowsMark → AllShowAt db 5 ShowsEpoch → AllShowAt db 6 ShowsSubscription → AllShowAt db 7 ShowsMeta → ⊥ in
    query_then (state g.S.Store c.args.conn.now) (state g.S.Store c.read_four.new.conn) (state g.S.Store c.read_four-2.new.conn) Unread
    (λ first unread all. unread all.marks all.epochs all.subscriptions all.meta) c.in_ok-mailboxes.ensures.query (rw c.in_default-2.is at c.in_ok-marks.ensures.query)
