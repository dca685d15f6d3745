-- A store of the first version becomes one whose messages stand in three tables.
use Rattle.std.specs.Prelude.{◌≡◌, ltb, if◌then◌else◌, List, [], codes, IsTrue}
use Rattle.sqlite.specs.State.{State, HasCleanDisk}
use Rattle.sqlite.specs.Table.{Table}
use Rattle.sqlite.specs.Tree.{Trees}
use Rattle.sqlite_rules.specs.Lists.{Has}
use Rattle.imap_message_tables.specs.Copying.{AreRowsFor, CopiesRows, IsSameButRowids}
use Rattle.imap_message_tables.specs.Split.{IsSplit}
use Rattle.imap_tables.specs.Changes.{Then}
use Rattle.imap_tables.specs.Edits.{Empties, IsMetaOf, Replaces, valued_row}
use Rattle.imap_tables.specs.Rows.{IsOrderly}
use Rattle.imap_tables.specs.Steps.{HasSchema, store_version}
use Rattle.imap_tables.specs.Tables.{message_tree, message2_tree, meta_tree, store_schema, store_tables}
use Rattle.imap_tables.specs.Texts.{first_schema}
use Rattle.imap_tables.specs.declared.stored.StoredMessage.{StoredMessage}

-- the rows of the tables of the first version, and none of the three that were added
abbrev pub first_of : Trees → Trees
first_of db tree = if ltb tree message2_tree then db tree else []

-- the three tables are there, without a row, and the others are as before
abbrev pub IsExtended : (old new : Trees) → Type 0
IsExtended old new =
    (table : Table) → Has store_tables table → new table.tree ≡ first_of old table.tree

-- the tables say that they are of this version
abbrev pub SetsVersion : (old new : Trees) → Type 0
SetsVersion old new = Replaces old new meta_tree (IsMetaOf (codes "version")) (valued_row store_version)

-- the one table of messages is emptied, they are added to the three, and the version is set
abbrev pub MovesRows : List StoredMessage → (old new : Trees) → Type 0
MovesRows messages =
    Then (λ db mid. Empties db mid message_tree) (Then (CopiesRows messages) SetsVersion)

-- so it is, after the three tables were made
abbrev pub AdoptsRows : List StoredMessage → (old new : Trees) → Type 0
AdoptsRows messages old new = (mid : Trees) × IsExtended old mid × MovesRows messages mid new

-- tables of the first version that are in order become those of a store, which are in order. The transaction
-- goes on
pub record Adopts (messages : List StoredMessage) (old new : State) : Type 0 where
  pub was_open : IsTrue old.is_open
  pub made : IsOrderly (first_of old.now.trees)
      → AdoptsRows messages old.now.trees new.now.trees × IsOrderly new.now.trees
  pub schema : HasSchema store_schema new
  pub mode : IsTrue new.in_transaction

-- while the disk returns what was written, an open connection has the tables of the first version, in order
abbrev pub IsFirstStore : State → Type 0
IsFirstStore s =
    HasCleanDisk s → IsTrue s.is_open → (s.now.schema ≡ first_schema) × IsOrderly (first_of s.now.trees)

-- the same rows up to the rowids of messages, but for the version
abbrev pub IsSameButVersion : (old one : Trees) → Type 0
IsSameButVersion old one = (copied : Trees) × IsSameButRowids old copied × SetsVersion copied one

-- Tables that were taken over fit one table with the messages that stood in it before.
abbrev pub AdoptedFits : Type 0
AdoptedFits =
    (old new : Trees) (messages : List StoredMessage)
    → AreRowsFor (old message_tree) messages → AdoptsRows messages old new
    → (one : Trees) × IsSplit new one × IsSameButVersion (first_of old) one
