use Rattle.std.proofs.Common.{ℕ, List, map, string_bytes}
use Rattle.sqlite.specs.Held.{state}
use Rattle.imap_tables.specs.Edits.{AreKeywordsOf, HasHead}
use Rattle.imap_message_tables.proofs.Called.{ordered_so}
use Rattle.imap_message_tables.proofs.Calling.{both_found}
use Rattle.imap_message_tables.proofs.writing.find_words.Goals as goal

pub returns-clause-call : goal.returns-clause-call
returns-clause-call g c =
    let old = state g.S.Store c.args.tx.now.conn.now in
    let mid = state g.S.Store c.check_head.new.tx.conn.now in
    let new = state g.S.Store c.find_keywords.new.tx.conn.now in
    let found : List (List ℕ) = map string_bytes c.in_ok-found.found.items in
    let db = old.now.trees in
    ordered_so old new c.args.mailbox.now c.args.uid found (λ v. map string_bytes v.items) c.ordered.result c.ordered.ensures
    (both_found old mid new (HasHead db c.args.mailbox.now c.args.uid) (λ d. AreKeywordsOf d c.args.mailbox.now c.args.uid found)
    (HasHead db c.args.mailbox.now c.args.uid × AreKeywordsOf db c.args.mailbox.now c.args.uid found) c.in_ok-check_head.ensures.call c.in_ok-found.ensures.call (λ head words. (head, words)))
