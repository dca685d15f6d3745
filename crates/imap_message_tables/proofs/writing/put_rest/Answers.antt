use Rattle.std.proofs.Common.{Ok, Result, map, string_bytes}
use Rattle.sqlite.specs.Held.{state}
use Rattle.sqlite.specs.declared.error.Error.{Error}
use Rattle.imap_message_tables.specs.Writing.{AddsBody, AddsWords}
use Rattle.imap_message_tables.proofs.Calling.{goes_so, goes_then}
use Rattle.imap_message_tables.proofs.writing.put_rest.Goals as goal

pub returns-clause-call : goal.returns-clause-call
returns-clause-call g c =
    let old = state g.S.Store c.args.tx.now.conn.now in
    let mid = state g.S.Store c.insert_body.new.tx.conn.now in
    let new = state g.S.Store c.put_words.new.tx.conn.now in
    let mailbox = c.args.mailbox.now in
    let row = c.args.row.now in
    let done : Result (Unit {0}) Error = Ok tt in
    let added = goes_so old mid (AddsBody mailbox row) done (rw c.as_slice.ensures at c.in_ok-insert_body.ensures.call) in
    goes_then old mid new (AddsBody mailbox row) (AddsWords mailbox row.uid (map string_bytes c.args.words.now)) c.put_words.result added c.put_words.ensures.call
