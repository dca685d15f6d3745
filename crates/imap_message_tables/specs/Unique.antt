-- The unique indexes of the three tables.
use Rattle.std.specs.Prelude.{ℕ, ℤ, List}
use Rattle.sqlite.specs.Order.{Row}
use Rattle.sqlite.specs.Table.{Table}
use Rattle.sqlite.specs.Tree.{Trees}
use Rattle.sqlite_rules.specs.Lists.{Has}
use Rattle.sqlite_schema.specs.Rules.{Keeps}
use Rattle.sqlite_schema.specs.declared.schema.Constraint.TheVariants.{Unique}
use Rattle.imap_tables.specs.Edits.{Adds, IsMessageOf}
use Rattle.imap_tables.specs.Rows.{AreApart, IsRowOf, message2_row}
use Rattle.imap_message_tables.specs.Split.{AreKeyed}
use Rattle.imap_tables.specs.Tables.{added_tables, store_schema}

-- the three tables have rows with their columns, and rowids that differ
pub record AreInOrder (db : Trees) : Type 0 where
  pub rows : (table : Table) → Has added_tables table → (row : Row) → Has (db table.tree) row
      → IsRowOf table row
  pub apart : (table : Table) → Has added_tables table → AreApart (db table.tree)

-- three tables in order that keep their unique indexes have one row at most of each key
abbrev pub IndexesKey : Type 0
IndexesKey = (db : Trees) → Keeps Unique store_schema db → AreInOrder db → AreKeyed db

-- a row that was added, where no two have one key, has a key that was free
abbrev pub AddedIsFresh : Type 0
AddedIsFresh =
    (old new : Trees) (mailbox : ℤ) (uid : ℕ) (date : List ℕ) (flags : ℕ) (place : ℤ)
    → Adds old new 16 (message2_row mailbox uid date flags place) → AreKeyed new
    → (row : Row) → Has (old 16) row → IsMessageOf mailbox uid row → ⊥
