use Rattle.std.proofs.Common.{◌≡◌, drop, map, string_bytes}
use Rattle.sqlite.specs.Held.{state}
use Rattle.imap_message_tables.specs.Writing.{CutsWords}
use Rattle.imap_message_tables.proofs.Calling.{HasGone}
use Rattle.imap_message_tables.proofs.writing.cut_words.Given as goal

abbrev pub invariant-words : goal.invariant-words
invariant-words g l =
    (l.tx.conn.ghost_name ≡ l.fn.tx.conn.ghost_name)
    × HasGone (λ ws. CutsWords l.mailbox l.uid (map string_bytes ws)) l.words (drop l.word-index l.words) (state g.S.Store l.fn.tx.conn.now) (state g.S.Store l.tx.conn.now)
