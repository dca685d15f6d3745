use Rattle.std.proofs.Common.{map, string_bytes}
use Rattle.sqlite.specs.Held.{state}
use Rattle.imap_tables.specs.Changes.{Then}
use Rattle.imap_message_tables.specs.Writing.{AddsWords, CutsWords, FlagsHead}
use Rattle.imap_message_tables.proofs.Calling.{turns_then}
use Rattle.imap_message_tables.proofs.writing.put_flags.Goals as goal

pub returns-clause-call : goal.returns-clause-call
returns-clause-call g c =
    let old = state g.S.Store c.args.tx.now.conn.now in
    let mid = state g.S.Store c.flag_head.new.tx.conn.now in
    let new = state g.S.Store c.change_words.new.tx.conn.now in
    let uid = (c.args.row.now).uid in
    turns_then old mid new (FlagsHead c.args.mailbox.now c.args.row.now)
    (Then (CutsWords c.args.mailbox.now uid (map string_bytes c.args.gone.now)) (AddsWords c.args.mailbox.now uid (map string_bytes c.args.added.now))) c.change_words.result
    c.in_ok-flag_head.ensures.call c.change_words.ensures.call
