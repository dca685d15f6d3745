use Rattle.sqlite.specs.Held.{state}
use Rattle.imap_tables.proofs.MessageEffects.{sets_meta}
use Rattle.imap_tables.proofs.Statements.{update_meta}
use Rattle.imap_tables.proofs.Turned.{turned}
use Rattle.imap_tables.proofs.updates.update_meta.Goals as goal

pub returns-clause-call : goal.returns-clause-call
returns-clause-call g c =
    let old = state g.S.Store c.args.tx.now.conn.now in
    let new = state g.S.Store c.execute.new.self.conn.now in
    turned old new update_meta _ _ c.execute.result c.requires c.execute.ensures.survives
    (λ clean inside. rw (c.params-to_sql.ensures, c.params-to_sql-2.ensures) at (c.execute.ensures.runs clean inside))
    (λ count has h. sets_meta old new count has c.args.key.now c.args.value h)
