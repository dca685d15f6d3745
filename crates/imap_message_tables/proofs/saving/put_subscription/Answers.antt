use Rattle.sqlite.specs.Held.{state}
use Rattle.imap_tables.proofs.Chain.{both_made}
use Rattle.imap_tables.specs.Edits.{Adds, IsSubOf, Removes}
use Rattle.imap_tables.specs.Rows.{sub_row}
use Rattle.imap_tables.specs.Steps.{Turns}
use Rattle.imap_message_tables.proofs.Calling.{made_so}
use Rattle.imap_message_tables.proofs.saving.put_subscription.Goals as goal

pub returns-clause-call : goal.returns-clause-call
returns-clause-call g c =
    let old = state g.S.Store c.args.tx.now.conn.now in
    let mid = state g.S.Store c.delete_subscription.new.tx.conn.now in
    let new = state g.S.Store c.insert_subscription.new.tx.conn.now in
    let user = c.args.user.now in
    let tree = c.deref-tree.result.now in
    let path = c.deref-path.result.now in
    let added = made_so mid new (Turns (λ db after. Adds db after 12 (sub_row user tree path)) mid new) c.insert_subscription.result c.made.result c.made.ensures c.insert_subscription.ensures.call in
    rw (c.deref-tree.ensures, c.deref-path.ensures) at
    (both_made old mid new (λ db after. Removes db after 12 (IsSubOf user tree path)) (λ db after. Adds db after 12 (sub_row user tree path)) c.made.result c.in_ok-delete_subscription.ensures.call added)
