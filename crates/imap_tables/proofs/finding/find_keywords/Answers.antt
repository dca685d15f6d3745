use Rattle.std.proofs.Common.{◌≡◌, rules}
use Rattle.sqlite.specs.Held.{state}
use Rattle.imap_tables.proofs.Found.{words_are}
use Rattle.imap_tables.proofs.finding.find_keywords.Goals as goal

pub returns-clause-call : goal.returns-clause-call
returns-clause-call g c =
    let old = state g.S.Store c.args.tx.now.conn.now in
    let new = state g.S.Store c.query_keywords.new.tx.conn.now in
    let same : c.as_slice.result.now ≡ c.in_ok-rows.rows.items = search rules in
    words_are old new c.args.mailbox.now c.args.uid c.in_ok-rows.rows.items (λ v. v.items) c.texts_of.result c.in_ok-rows.ensures.call (search rules)
