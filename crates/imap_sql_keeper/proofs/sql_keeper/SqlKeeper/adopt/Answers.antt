use Rattle.sqlite.specs.Held.{state}
use Rattle.imap_sql_keeper.proofs.Fresh.{new_keeps}
use Rattle.imap_sql_keeper.proofs.sql_keeper.SqlKeeper.adopt.Goals as goal

pub returns-in-Ok-clause-new : goal.returns-in-Ok-clause-new
returns-in-Ok-clause-new g c blank world mailboxes epochs subscriptions =
    new_keeps world mailboxes epochs subscriptions (state g.S.Store c.args.conn) (state g.S.Store c.find_store.new.conn) c.in-Ok.ensures.rest c.in-Ok.ensures.finds blank
