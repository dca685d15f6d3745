use Rattle.std.proofs.Common.{◌≡◌, rules, ℤ, subst, subst₂, w64, to_z, of_z}
use Rattle.sqlite.specs.Held.{state}
use Rattle.imap_message_tables.specs.Writing.{WritesAllBelow, WritesUnder}
use Rattle.imap_tables.specs.Edits.{IsIdOf}
use Rattle.imap_tables.proofs.Chain.{query_then, still_begun, still_live}
use Rattle.imap_message_tables.proofs.saving.make_under.Goals as goal

pub make_all_below-requires-clause-begun : goal.make_all_below-requires-clause-begun
make_all_below-requires-clause-begun g c =
    let old = state g.S.Store c.args.tx.now.conn.now in
    let mid = state g.S.Store c.find_mailbox.new.tx.conn.now in
    still_begun old mid mid (IsIdOf old.now.trees c.deref.result.now c.deref-2.result.now c.in_ok-mailbox.mailbox) c.in_ok-mailbox.ensures.call c.requires.begun

pub make_all_below-requires-clause-live : goal.make_all_below-requires-clause-live
make_all_below-requires-clause-live g c =
    let old = state g.S.Store c.args.tx.now.conn.now in
    let mid = state g.S.Store c.find_mailbox.new.tx.conn.now in
    still_live old mid mid (IsIdOf old.now.trees c.deref.result.now c.deref-2.result.now c.in_ok-mailbox.mailbox) c.in_ok-mailbox.ensures.call c.requires.begun c.requires.begun

pub returns-clause-call : goal.returns-clause-call
returns-clause-call g c =
    let old = state g.S.Store c.args.tx.now.conn.now in
    let mid = state g.S.Store c.find_mailbox.new.tx.conn.now in
    let new = state g.S.Store c.make_all_below.new.tx.conn.now in
    let id = c.in_ok-mailbox.mailbox in
    -- it was read from where it stands
    let read : ℤ = to_z w64 (of_z w64 id) in
    let same : read ≡ id = search rules in
    query_then old mid new (IsIdOf old.now.trees c.deref.result.now c.deref-2.result.now id) c.in_ok-mailbox.ensures.call c.requires.begun
    (WritesAllBelow read c.args.changes.now) (WritesUnder c.args.key.now c.args.changes.now) c.make_all_below.result c.make_all_below.ensures.call
    (λ found all. (id, subst₂ (λ t p. IsIdOf old.now.trees t p id) c.deref.ensures c.deref-2.ensures found, subst (λ i. WritesAllBelow i c.args.changes.now old.now.trees new.now.trees) same all))
