use Rattle.sqlite.specs.Held.{state}
use Rattle.imap_tables.specs.Changes.{Then}
use Rattle.imap_tables.specs.Edits.{Empties}
use Rattle.imap_message_tables.specs.Adopting.{SetsVersion}
use Rattle.imap_message_tables.specs.Copying.{CopiesRows}
use Rattle.imap_message_tables.proofs.Calling.{turns_then}
use Rattle.imap_message_tables.proofs.adopting.move_messages.Goals as goal

pub returns-clause-call : goal.returns-clause-call
returns-clause-call g c =
    let old = state g.S.Store c.args.tx.now.conn.now in
    let mid = state g.S.Store c.delete_messages.new.tx.conn.now in
    let new = state g.S.Store c.copy_all.new.tx.conn.now in
    turns_then old mid new (λ db after. Empties db after 4) (Then (CopiesRows c.args.messages.now) SetsVersion) c.copy_all.result c.in_ok-delete_messages.ensures.call c.copy_all.ensures.call
