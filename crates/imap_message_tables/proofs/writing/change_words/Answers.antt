use Rattle.std.proofs.Common.{map, string_bytes}
use Rattle.sqlite.specs.Held.{state}
use Rattle.imap_message_tables.specs.Writing.{AddsWords, CutsWords}
use Rattle.imap_message_tables.proofs.Calling.{goes_then}
use Rattle.imap_message_tables.proofs.writing.change_words.Goals as goal

pub returns-clause-call : goal.returns-clause-call
returns-clause-call g c =
    let old = state g.S.Store c.args.tx.now.conn.now in
    let mid = state g.S.Store c.cut_words.new.tx.conn.now in
    let new = state g.S.Store c.put_words.new.tx.conn.now in
    goes_then old mid new (CutsWords c.args.mailbox.now c.args.uid (map string_bytes c.args.gone.now)) (AddsWords c.args.mailbox.now c.args.uid (map string_bytes c.args.added.now)) c.put_words.result c.in_ok-cut_words.ensures.call c.put_words.ensures.call
