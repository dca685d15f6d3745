use Rattle.sqlite.specs.Held.{state}
use Rattle.imap_tables.proofs.Found.{finds_keywords}
use Rattle.imap_tables.proofs.finding.query_keywords.Goals as goal

pub returns-clause-call : goal.returns-clause-call
returns-clause-call g c =
    let old = state g.S.Store c.args.tx.now.conn.now in
    let new = state g.S.Store c.query_all.new.self.conn.now in
    finds_keywords old new c.args.mailbox.now c.args.uid (λ rows. rows.items) c.query_all.result c.requires c.query_all.ensures.survives
    (λ clean. rw (c.params-to_sql.ensures, c.params-to_sql-2.ensures) at (c.query_all.ensures.ok clean))
    (λ clean. rw (c.params-to_sql.ensures, c.params-to_sql-2.ensures) at (c.query_all.ensures.err clean))
