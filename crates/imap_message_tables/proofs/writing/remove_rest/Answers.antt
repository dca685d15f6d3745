use Rattle.sqlite.specs.Held.{state}
use Rattle.imap_tables.proofs.Chain.{both_made}
use Rattle.imap_tables.specs.Edits.{IsMessageOf, Removes}
use Rattle.imap_tables.specs.Steps.{Turns}
use Rattle.imap_message_tables.proofs.Calling.{made_so}
use Rattle.imap_message_tables.proofs.writing.remove_rest.Goals as goal

pub returns-clause-call : goal.returns-clause-call
returns-clause-call g c =
    let old = state g.S.Store c.args.tx.now.conn.now in
    let mid = state g.S.Store c.delete_body.new.tx.conn.now in
    let new = state g.S.Store c.delete_keywords.new.tx.conn.now in
    let Is = IsMessageOf c.args.mailbox.now c.args.uid in
    let gone = made_so mid new (Turns (λ db after. Removes db after 20 Is) mid new) c.delete_keywords.result c.made.result c.made.ensures c.delete_keywords.ensures.call in
    both_made old mid new (λ db after. Removes db after 18 Is) (λ db after. Removes db after 20 Is) c.made.result c.in_ok-delete_body.ensures.call gone
