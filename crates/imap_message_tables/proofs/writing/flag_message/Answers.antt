use Rattle.std.proofs.Common.{◌≡◌, rules, ℕ, List, map, string_bytes, subst}
use Rattle.sqlite.specs.Held.{state}
use Rattle.imap_tables.specs.declared.changes.ChangeBelow.TheVariants as below
use Rattle.imap_message_tables.specs.Writing.{AreWordsIn, FlagsMessage, IsThere, WritesBelow}
use Rattle.imap_message_tables.proofs.Calling.{found_then}
use Rattle.imap_message_tables.proofs.writing.flag_message.Goals as goal

pub returns-clause-call : goal.returns-clause-call
returns-clause-call g c =
    let old = state g.S.Store c.args.tx.now.conn.now in
    let mid = state g.S.Store c.find_words.new.tx.conn.now in
    let new = state g.S.Store c.change_flags.new.tx.conn.now in
    let mailbox = c.args.mailbox.now in
    let row = c.args.row.now in
    let known : List (List ℕ) = map string_bytes c.in_ok-before.before.items in
    let before : List (List ℕ) = map string_bytes c.as_slice.result.now in
    let words : List (List ℕ) = map string_bytes c.as_slice-2.result.now in
    let same : known ≡ before = search rules in
    let are : AreWordsIn (string_bytes row.keywords) words = search rules in
    found_then old mid new (IsThere old.now.trees mailbox row.uid known) (FlagsMessage mailbox row before words) (WritesBelow mailbox (below.FlagMessage row)) c.change_flags.result c.requires.begun
    c.in_ok-before.ensures.call c.change_flags.ensures.call (λ there it. (before, words, subst (IsThere old.now.trees mailbox row.uid) same there, are, it))
