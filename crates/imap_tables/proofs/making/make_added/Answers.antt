use Rattle.std.proofs.Common.{Ok, Result}
use Rattle.sqlite.specs.Held.{state}
use Rattle.sqlite.specs.declared.error.Error.{Error}
use Rattle.imap_tables.proofs.MoreTables.{both_called, made_has, third_added}
use Rattle.imap_tables.proofs.making.make_added.Goals as goal

pub make_table-requires-clause-schema : goal.make_table-requires-clause-schema
make_table-requires-clause-schema g c =
    let old = state g.S.Store c.args.tx.now.conn.now in
    let mid = state g.S.Store c.make_two.new.tx.conn.now in
    made_has old mid mid 10 c.requires.begun c.in_ok-make_two.ensures.call (λ h. h.schema)

pub returns-clause-call : goal.returns-clause-call
returns-clause-call g c =
    let old = state g.S.Store c.args.tx.now.conn.now in
    let mid = state g.S.Store c.make_two.new.tx.conn.now in
    let new = state g.S.Store c.make_table.new.tx.conn.now in
    let done : Result (Unit {0}) Error = Ok tt in
    both_called old mid new done c.in_ok-make_two.ensures.call (λ h. h.mode) c.in_ok-make_table.ensures.call (third_added old mid new)
