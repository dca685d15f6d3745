use Rattle.sqlite.specs.Held.{state}
use Rattle.imap_tables.specs.Steps.{Turns}
use Rattle.imap_message_tables.specs.Adopting.{SetsVersion}
use Rattle.imap_message_tables.specs.Copying.{CopiesRows}
use Rattle.imap_message_tables.proofs.Calling.{goes_so, goes_then, made_so}
use Rattle.imap_message_tables.proofs.adopting.copy_all.Goals as goal

pub returns-clause-call : goal.returns-clause-call
returns-clause-call g c =
    let old = state g.S.Store c.args.tx.now.conn.now in
    let mid = state g.S.Store c.copy_messages.new.tx.conn.now in
    let new = state g.S.Store c.set_version.new.tx.conn.now in
    let set = made_so mid new (Turns SetsVersion mid new) c.set_version.result c.made.result c.made.ensures c.set_version.ensures.call in
    goes_then old mid new (CopiesRows c.args.messages.now) SetsVersion c.made.result c.in_ok-copy_messages.ensures.call (goes_so mid new SetsVersion c.made.result set)
