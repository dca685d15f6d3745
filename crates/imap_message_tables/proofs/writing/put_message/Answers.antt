use Rattle.std.proofs.Common.{map, string_bytes}
use Rattle.sqlite.specs.Held.{state}
use Rattle.imap_tables.specs.Changes.{Then}
use Rattle.imap_message_tables.specs.Writing.{AddsBody, AddsHead, AddsWords}
use Rattle.imap_message_tables.proofs.Calling.{turns_then}
use Rattle.imap_message_tables.proofs.writing.put_message.Goals as goal

pub returns-clause-call : goal.returns-clause-call
returns-clause-call g c =
    let old = state g.S.Store c.args.tx.now.conn.now in
    let mid = state g.S.Store c.put_head.new.tx.conn.now in
    let new = state g.S.Store c.put_rest.new.tx.conn.now in
    let mailbox = c.args.mailbox.now in
    let row = c.args.row.now in
    turns_then old mid new (AddsHead mailbox row) (Then (AddsBody mailbox row) (AddsWords mailbox row.uid (map string_bytes c.args.words.now))) c.put_rest.result
    c.in_ok-put_head.ensures.call c.put_rest.ensures.call
