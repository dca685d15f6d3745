use Rattle.std.proofs.Common.{rules, ℕ, List, map, string_bytes}
use Rattle.sqlite.specs.Held.{state}
use Rattle.imap_message_tables.specs.Writing.{AreWordsIn}
use Rattle.imap_message_tables.proofs.Called.{add_so}
use Rattle.imap_message_tables.proofs.writing.add_message.Goals as goal

pub returns-clause-call : goal.returns-clause-call
returns-clause-call g c =
    let old = state g.S.Store c.args.tx.now.conn.now in
    let new = state g.S.Store c.put_message.new.tx.conn.now in
    let words : List (List ℕ) = map string_bytes c.as_slice.result.now in
    let are : AreWordsIn (string_bytes (c.args.row.now).keywords) words = search rules in
    add_so old new c.args.mailbox.now c.args.row.now words c.put_message.result are c.put_message.ensures.call
