use Rattle.std.proofs.Common.{◌≡◌, drop}
use Rattle.sqlite.specs.Held.{state}
use Rattle.imap_message_tables.specs.Copying.{CopiesRows}
use Rattle.imap_message_tables.proofs.Calling.{HasGone}
use Rattle.imap_message_tables.proofs.copying.copy_messages.Given as goal

abbrev pub invariant-messages : goal.invariant-messages
invariant-messages g l =
    (l.tx.conn.ghost_name ≡ l.fn.tx.conn.ghost_name) × HasGone CopiesRows l.messages (drop l.message-index l.messages) (state g.S.Store l.fn.tx.conn.now) (state g.S.Store l.tx.conn.now)
