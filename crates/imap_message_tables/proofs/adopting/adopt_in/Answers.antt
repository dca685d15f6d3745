use Rattle.sqlite.specs.Held.{state}
use Rattle.imap_message_tables.proofs.Adopted.{adopts_then}
use Rattle.imap_message_tables.proofs.Calling.{still_has}
use Rattle.imap_message_tables.proofs.adopting.adopt_in.Goals as goal

pub move_messages-requires-clause-schema : goal.move_messages-requires-clause-schema
move_messages-requires-clause-schema g c =
    let old = state g.S.Store c.args.tx.now.conn.now in
    let mid = state g.S.Store c.make_added.new.tx.conn.now in
    still_has old mid mid c.requires.begun c.in_ok-make_added.ensures.call (λ h clean live. h.schema)

pub returns-clause-call : goal.returns-clause-call
returns-clause-call g c =
    let old = state g.S.Store c.args.tx.now.conn.now in
    let mid = state g.S.Store c.make_added.new.tx.conn.now in
    let new = state g.S.Store c.move_messages.new.tx.conn.now in
    adopts_then old mid new c.args.messages.now c.move_messages.result c.in_ok-make_added.ensures.call c.move_messages.ensures.call
