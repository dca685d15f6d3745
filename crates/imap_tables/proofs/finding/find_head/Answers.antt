use Rattle.sqlite.specs.Held.{state}
use Rattle.imap_tables.proofs.Found.{finds_head}
use Rattle.imap_tables.proofs.finding.find_head.Goals as goal

pub returns-clause-call : goal.returns-clause-call
returns-clause-call g c =
    let old = state g.S.Store c.args.tx.now.conn.now in
    let new = state g.S.Store c.query_row.new.self.conn.now in
    finds_head old new c.args.mailbox.now c.args.uid c.query_row.result c.requires c.query_row.ensures.survives
    (λ clean. rw (c.params-to_sql.ensures, c.params-to_sql-2.ensures) at (c.query_row.ensures.row clean))
