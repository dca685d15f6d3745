use Rattle.std.proofs.Common.{◌≡◌, drop, IsTrue}
use Rattle.sqlite.specs.State.{HasCleanDisk}
use Rattle.sqlite.specs.Held.{state}
use Rattle.imap_message_tables.specs.Writing.{WritesAllBelow}
use Rattle.imap_tables.proofs.Chain.{HasMade}
use Rattle.imap_message_tables.proofs.saving.make_all_below.Given as goal

abbrev pub invariant-changes : goal.invariant-changes
invariant-changes g l =
    (l.tx.conn.ghost_name ≡ l.fn.tx.conn.ghost_name)
    × HasMade (WritesAllBelow l.mailbox) l.changes (drop l.change-index l.changes) (state g.S.Store l.fn.tx.conn.now) (state g.S.Store l.tx.conn.now)
    × (HasCleanDisk (state g.S.Store l.tx.conn.now) → IsTrue (state g.S.Store l.fn.tx.conn.now).is_open)
