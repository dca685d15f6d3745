-- A database that keeps a world.
use Rattle.std.specs.Prelude.{◌≡◌, ◌⊎◌, ℕ, false, IsTrue, List, refl}
use Rattle.std.specs.Coded.{Coded, coded_ℕ, coded×, code_by}
use Rattle.sqlite.specs.Held.{Held, held_code}
use Rattle.sqlite.specs.Schema.{Schema}
use Rattle.sqlite.specs.State.{State, HasCleanDisk}
use Rattle.sqlite.specs.Tree.{Trees}
use Rattle.imap_message_tables.specs.Writing.{WritesAll}
use Rattle.imap_restore.specs.Holding.{HoldSplit}
use Rattle.imap_tables.specs.Contents.{AreAddedStored, AreStored}
use Rattle.imap_tables.specs.Rows.{IsOrderly}
use Rattle.imap_tables.specs.declared.changes.RowChange.{RowChange}
use Rattle.imap_tables.specs.declared.tables.AddedTables.{AddedTables}
use Rattle.imap_tables.specs.declared.tables.StoredTables.{StoredTables}
use Rattle.imap_tables.specs.Steps.{HasSchema}
use Rattle.imap_tables.specs.Tables.{store_schema}
use Rattle.imap_world.specs.World.{World}

-- a connection, and how often the database refused
pub record Keeping (S : Type 0) : Type 0 where
  pub conn : Held S
  pub failures : ℕ

abbrev pub keeping_code : {S : Type 0} → Coded S → Coded (Keeping S)
keeping_code {S} store =
    code_by (Held S × ℕ) (coded× (held_code store) coded_ℕ) (λ k. (k.conn, k.failures))
    (λ p. record { conn = p.0; failures = p.1 }) (λ _. refl)

-- no transaction is open, and an open connection has these tables
pub record Rests (tables : Schema) (s : State) : Type 0 where
  pub autocommit : s.in_transaction ≡ false
  pub settled : HasCleanDisk s → IsTrue s.is_open → s.now ≡ s.committed
  pub schema : HasSchema tables s

-- and they are those of a store
abbrev pub IsAtRest : State → Type 0
IsAtRest s = Rests store_schema s

-- while the disk returns what was written, an open connection has tables that hold the world
abbrev pub Keeps : State → World → Type 0
Keeps s world = HasCleanDisk s → IsTrue s.is_open → HoldSplit s.now.trees world

-- this is read of all tables
abbrev pub AreAllRead : Trees → StoredTables × AddedTables → Type 0
AreAllRead db all = AreStored db all.0 × AreAddedStored db all.1

-- what a change of rows makes of tables that are in order
pub record Made (rows : List RowChange) (old : State) (db : Trees) : Type 0 where
  pub was_open : IsTrue old.is_open
  pub made : WritesAll rows old.now.trees db
  pub orderly : IsOrderly db

-- a crash may leave tables that are the change's
abbrev pub LeavesMade : (rows : List RowChange) → (old new : State) → Type 0
LeavesMade rows old new =
    (db : Trees) → new.may_leave db
    → old.may_leave db ⊎ Made rows old db
