use Rattle.sqlite.specs.Held.{state}
use Rattle.imap_tables.proofs.Chain.{both_made}
use Rattle.imap_tables.specs.Edits.{Adds, IsEpochOf, Removes}
use Rattle.imap_tables.specs.Rows.{epoch_row}
use Rattle.imap_tables.specs.Steps.{Turns}
use Rattle.imap_message_tables.proofs.Calling.{made_so}
use Rattle.imap_message_tables.proofs.saving.put_epoch.Goals as goal

pub returns-clause-call : goal.returns-clause-call
returns-clause-call g c =
    let old = state g.S.Store c.args.tx.now.conn.now in
    let mid = state g.S.Store c.delete_epoch.new.tx.conn.now in
    let new = state g.S.Store c.insert_epoch.new.tx.conn.now in
    let tree = c.deref-tree.result.now in
    let path = c.deref-path.result.now in
    let added = made_so mid new (Turns (λ db after. Adds db after 10 (epoch_row tree path c.args.greatest)) mid new) c.insert_epoch.result c.made.result c.made.ensures c.insert_epoch.ensures.call in
    rw (c.deref-tree.ensures, c.deref-path.ensures) at
    (both_made old mid new (λ db after. Removes db after 10 (IsEpochOf tree path)) (λ db after. Adds db after 10 (epoch_row tree path c.args.greatest)) c.made.result c.in_ok-delete_epoch.ensures.call added)
