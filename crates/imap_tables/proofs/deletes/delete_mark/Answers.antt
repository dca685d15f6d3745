use Rattle.sqlite.specs.Held.{state}
use Rattle.imap_tables.proofs.Effects.{drops_mark}
use Rattle.imap_tables.proofs.Statements.{delete_mark}
use Rattle.imap_tables.proofs.Turned.{turned}
use Rattle.imap_tables.proofs.deletes.delete_mark.Goals as goal

pub returns-clause-call : goal.returns-clause-call
returns-clause-call g c =
    let old = state g.S.Store c.args.tx.now.conn.now in
    let new = state g.S.Store c.execute.new.self.conn.now in
    turned old new delete_mark _ _ c.execute.result c.requires c.execute.ensures.survives
    (λ clean inside. rw (c.params-to_sql.ensures, c.params-to_sql-2.ensures, c.params-to_sql-3.ensures) at (c.execute.ensures.runs clean inside))
    (λ count has h. drops_mark old new count has c.args.mailbox.now c.args.user.now c.args.own.now h)
