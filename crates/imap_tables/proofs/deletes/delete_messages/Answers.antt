use Rattle.sqlite.specs.Held.{state}
use Rattle.imap_tables.proofs.MessageEffects.{drops_messages}
use Rattle.imap_tables.proofs.Statements.{delete_messages}
use Rattle.imap_tables.proofs.Turned.{turned}
use Rattle.imap_tables.proofs.deletes.delete_messages.Goals as goal

pub returns-clause-call : goal.returns-clause-call
returns-clause-call g c =
    let old = state g.S.Store c.args.tx.now.conn.now in
    let new = state g.S.Store c.execute.new.self.conn.now in
    turned old new delete_messages _ _ c.execute.result c.requires c.execute.ensures.survives
    c.execute.ensures.runs
    (λ count has h. drops_messages old new count has h)
