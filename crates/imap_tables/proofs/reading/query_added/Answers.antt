use Rattle.std.proofs.Common.{rules, inl}
use Rattle.sqlite.specs.Held.{state}
use Rattle.sqlite.specs.Tree.{Trees}
use Rattle.imap_tables.specs.Contents.{AllShowAt, AreReadAt}
use Rattle.imap_tables.specs.Stored.{IsKeyword, ShowsKeyword}
use Rattle.imap_tables.proofs.Read.{failed_then, query_failed, query_tells, query_then, table_stays}
use Rattle.imap_tables.proofs.reading.query_added.Goals as goal

pub read_two-requires-clause-schema : goal.read_two-requires-clause-schema
read_two-requires-clause-schema g c = inl c.requires.schema

pub read_table-requires-clause-schema : goal.read_table-requires-clause-schema
read_table-requires-clause-schema g c =
    table_stays 10 (state g.S.Store c.args.conn.now) (state g.S.Store c.read_two.new.conn) (inl c.requires.schema) c.in_ok-heads.ensures.query

pub returns-in_err-heads-clause-query : goal.returns-in_err-heads-clause-query
returns-in_err-heads-clause-query g c =
    query_failed (state g.S.Store c.args.conn.now) (state g.S.Store c.read_two.new.conn) _ c.from_residual.result
    c.in_err-heads.field-0.0 (search rules) c.in_err-heads.ensures.query

pub returns-in_default-clause-query : goal.returns-in_default-clause-query
returns-in_default-clause-query g c =
    query_tells (state g.S.Store c.args.conn.now) (state g.S.Store c.read_two.new.conn)
    (λ unread all. unread all.heads all.bodies) (rw c.in_default.is at c.in_ok-heads.ensures.query)

pub returns-in_err-keywords-clause-query : goal.returns-in_err-keywords-clause-query
returns-in_err-keywords-clause-query g c =
    failed_then (state g.S.Store c.args.conn.now) (state g.S.Store c.read_two.new.conn) (state g.S.Store c.read_table.new.conn)
    _ c.from_residual-in_err-keywords.result c.in_err-keywords.field-0.0 (search rules)
    c.in_ok-heads.ensures.query c.in_err-keywords.ensures.query

pub returns-in_default-2-clause-query : goal.returns-in_default-2-clause-query
returns-in_default-2-clause-query g c =
    let Unread : Trees → Type 0 = λ db. AllShowAt db 10 ShowsKeyword → ⊥ in
    query_then (state g.S.Store c.args.conn.now) (state g.S.Store c.read_two.new.conn) (state g.S.Store c.read_table.new.conn) Unread
    (λ first unread all. unread all.keywords) c.in_ok-heads.ensures.query (rw c.in_default-2.is at c.in_ok-keywords.ensures.query)

pub returns-clause-query : goal.returns-clause-query
returns-clause-query g c =
    let Read : Trees → Type 0 = λ db. AreReadAt db 10 IsKeyword c.in-Some-2.keywords.items in
    query_then (state g.S.Store c.args.conn.now) (state g.S.Store c.read_two.new.conn) (state g.S.Store c.read_table.new.conn) Read
    (λ first third. record { heads = first.0; bodies = first.1; keywords = third })
    (rw c.in-Some.is at c.in_ok-heads.ensures.query) (rw c.in-Some-2.is at c.in_ok-keywords.ensures.query)
