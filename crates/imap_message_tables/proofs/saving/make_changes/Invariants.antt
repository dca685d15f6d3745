use Rattle.std.proofs.Common.{◌≡◌, drop, IsTrue}
use Rattle.sqlite.specs.State.{HasCleanDisk}
use Rattle.sqlite.specs.Held.{state}
use Rattle.imap_message_tables.specs.Writing.{WritesAll}
use Rattle.imap_tables.proofs.Chain.{HasMade}
use Rattle.imap_message_tables.proofs.saving.make_changes.Given as goal

abbrev pub invariant-changes : goal.invariant-changes
invariant-changes g l =
    (l.tx.conn.ghost_name ≡ l.fn.tx.conn.ghost_name)
    × HasMade WritesAll l.changes (drop l.change-index l.changes) (state g.S.Store l.fn.tx.conn.now) (state g.S.Store l.tx.conn.now)
    × (HasCleanDisk (state g.S.Store l.tx.conn.now) → ¬ (drop l.change-index l.changes ≡ l.changes) → IsTrue (state g.S.Store l.fn.tx.conn.now).is_open)
