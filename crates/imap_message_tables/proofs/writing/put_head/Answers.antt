use Rattle.sqlite.specs.Held.{state}
use Rattle.imap_message_tables.proofs.Called.{head_so}
use Rattle.imap_message_tables.proofs.writing.put_head.Goals as goal

pub returns-clause-call : goal.returns-clause-call
returns-clause-call g c =
    let old = state g.S.Store c.args.tx.now.conn.now in
    let new = state g.S.Store c.insert_head.new.tx.conn.now in
    head_so old new c.args.mailbox.now c.args.row.now c.insert_head.result (rw c.deref.ensures at (c.insert_head.ensures.call))
