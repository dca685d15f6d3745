use Rattle.std.proofs.Common.{rules, ◌+◌, arith}
use Rattle.sqlite.specs.Held.{state}
use Rattle.sqlite.specs.Tree.{Trees}
use Rattle.imap_tables.specs.Contents.{AllShowAt, AreReadAt}
use Rattle.imap_tables.proofs.Read.{at_place, failed_then, query_failed, query_tells, query_then, tables_stay}
use Rattle.imap_tables.proofs.reading.read_four.Goals as goal

pub read_two-requires-clause-schema : goal.read_two-requires-clause-schema
read_two-requires-clause-schema g c = at_place (c.args.at + 1) (omega (arith, c.requires.low)) (state g.S.Store c.args.conn.now) c.requires.schema

pub read_two-requires-2-clause-schema : goal.read_two-requires-2-clause-schema
read_two-requires-2-clause-schema g c =
    let mid = state g.S.Store c.read_two.new.conn in
    at_place (c.args.at + 2 + 1) (omega (arith, c.requires.low)) mid (tables_stay (state g.S.Store c.args.conn.now) mid c.requires.schema c.in_ok-first.ensures.query)

pub returns-in_err-first-clause-query : goal.returns-in_err-first-clause-query
returns-in_err-first-clause-query g c =
    query_failed (state g.S.Store c.args.conn.now) (state g.S.Store c.read_two.new.conn) _ c.from_residual.result
    c.in_err-first.field-0.0 (search rules) c.in_err-first.ensures.query

pub returns-in_default-clause-query : goal.returns-in_default-clause-query
returns-in_default-clause-query g c =
    query_tells (state g.S.Store c.args.conn.now) (state g.S.Store c.read_two.new.conn)
    (λ unread one two _ _. unread one two) (rw c.in_default.is at c.in_ok-first.ensures.query)

pub returns-in_err-second-clause-query : goal.returns-in_err-second-clause-query
returns-in_err-second-clause-query g c =
    failed_then (state g.S.Store c.args.conn.now) (state g.S.Store c.read_two.new.conn) (state g.S.Store c.read_two-2.new.conn)
    _ c.from_residual-in_err-second.result c.in_err-second.field-0.0 (search rules)
    c.in_ok-first.ensures.query c.in_err-second.ensures.query

pub returns-in_default-2-clause-query : goal.returns-in_default-2-clause-query
returns-in_default-2-clause-query g c =
    let Unread : Trees → Type 0 = λ db. AllShowAt db (c.args.at + 2) g.T.FromRow.shows → AllShowAt db (c.args.at + 2 + 1) g.U.FromRow.shows → ⊥ in
    query_then (state g.S.Store c.args.conn.now) (state g.S.Store c.read_two.new.conn) (state g.S.Store c.read_two-2.new.conn) Unread
    (λ first unread one two. unread) c.in_ok-first.ensures.query (rw c.in_default-2.is at c.in_ok-second.ensures.query)

pub returns-clause-query : goal.returns-clause-query
returns-clause-query g c =
    let Read : Trees → Type 0 = λ db. AreReadAt db (c.args.at + 2) g.T.FromRow.is_of c.in-Some-2.second.0.items × AreReadAt db (c.args.at + 2 + 1) g.U.FromRow.is_of c.in-Some-2.second.1.items in
    query_then (state g.S.Store c.args.conn.now) (state g.S.Store c.read_two.new.conn) (state g.S.Store c.read_two-2.new.conn) Read
    (λ first second. (first, second)) (rw c.in-Some.is at c.in_ok-first.ensures.query) (rw c.in-Some-2.is at c.in_ok-second.ensures.query)
